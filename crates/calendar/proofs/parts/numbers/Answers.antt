-- `calendar::parts::numbers` meets its contract.
use mathlib.Core.Path.{refl}
use Rattle.calendar.specs.Walk.{part_sort_said}
use Rattle.calendar.proofs.parts.numbers.Goals as goal

pub returns : goal.returns
returns c = unfold part_sort_said in refl
