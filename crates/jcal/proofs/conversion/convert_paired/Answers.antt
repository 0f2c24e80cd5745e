-- `jcal::conversion::convert_paired` meets its contract.
use Prim.Native.Nat.{ℕ}
use mathlib.Core.List.{List}
use mathlib.Core.Path.{ap, ◌∙◌}
use Rattle.octets.specs.Answers.{Answer, answer}
use Rattle.jcal.proofs.Stages.{properties-failed, ready-tested, ready-ordered}
use Rattle.jcal.proofs.conversion.convert_paired.Goals.{then-not-calendar+in_default, else-not-calendar}
use Rattle.jcal.proofs.conversion.convert_paired.Goals as goal

pub returns-in-Err : goal.returns-in-Err
returns-in-Err c = c.refuse.ensures ∙ ap (λ (a : Answer (List ℕ)). answer a c.args.out.now) (properties-failed _ _ _ c.in-Err.ensures)

pub place_calendar-requires : goal.place_calendar-requires
place_calendar-requires c = elim c.if-not-calendar.branch [
  | then-not-calendar+in_default w ↦ ready-tested _ _ _ w.if-not-calendar.true w.in_default.ensures
  | else-not-calendar w ↦ ready-ordered _ _ _ w.if-not-calendar.false c.args.calendar.order
]
