-- What tests answer: a refusal with its number, or nothing but that they pass.
use Rattle.std.specs.Prelude.{ℕ, Bool, not, List}
use Rattle.std.proofs.Math.Option.{Option}
use Rattle.octets.specs.Answers.{Answer, accepted, then, unless}

-- number 7: whether a parameter name stands twice, and the type that VALUE names
unfoldable pub params_tested : Bool → Answer (Option (List ℕ)) → Answer (Unit {0})
params_tested twice type = unless 7 (not twice) (λ _. then type (λ _. accepted tt))
