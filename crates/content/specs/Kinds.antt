-- What the answer to "which type does VALUE name" says: the text that is answered is the type's name. That it is a part of the parameters is promised beside it, by
-- `StandsIn` of Parts. The name may stand there at several places: which of them is answered is the code's choice.
use Rattle.std.specs.Prelude.{ℕ, List, Some, None, Ok, Err}
use Rattle.std.specs.declared.option.Option as coded
use Rattle.std.specs.declared.result.Result as ended
use Rattle.std.proofs.Math.Option.{Option, none, some}
use Rattle.octets.specs.Classes.{lower}
use Rattle.octets.specs.Answers.{Answer, refused, accepted}

-- `text` gives the octets of what is answered
unfoldable pub value_type_said : {A E : Type 0} → (A → List ℕ) → ended.Result (coded.Option A) E → Answer (Option (List ℕ))
value_type_said text (Ok None) = accepted none
value_type_said text (Ok (Some t)) = accepted (some (lower (text t)))
value_type_said text (Err e) = refused 7
