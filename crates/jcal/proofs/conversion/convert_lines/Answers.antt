-- `jcal::conversion::convert_lines` meets its contract.
use Prim.Native.Nat.{ℕ}
use mathlib.Core.List.{List}
use mathlib.Core.Path.{ap, ◌∙◌}
use Rattle.octets.specs.Answers.{Answer, answer}
use Rattle.jcal.proofs.Stages.{structure-failed, structure-passed, pairs}
use Rattle.jcal.proofs.conversion.convert_lines.Goals as goal

pub invariant_of-calendar : goal.invariant_of-calendar
invariant_of-calendar c = let p = structure-passed _ c.test_structure.ensures c.in-Ok.is in
    record { few = c.requires; paired = p.0; order = p.1 }

pub returns-in-Ok : goal.returns-in-Ok
returns-in-Ok c = c.convert_paired.ensures ∙ ap (λ (a : Answer (List ℕ)). answer a c.args.out.now) (pairs _ _ (structure-passed _ c.test_structure.ensures c.in-Ok.is).0)

pub returns-in-Err : goal.returns-in-Err
returns-in-Err c = c.refuse.ensures ∙ ap (λ (a : Answer (List ℕ)). answer a c.args.out.now) (structure-failed _ _ c.test_structure.ensures c.in-Err.is)
