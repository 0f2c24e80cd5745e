-- `calendar::by_days::no_days` meets its contract.
use mathlib.Core.Path.{refl}
use Rattle.calendar.specs.Rules.{no_days}
use Rattle.calendar.proofs.by_days.no_days.Goals as goal

pub returns : goal.returns
returns c = unfold no_days in refl
