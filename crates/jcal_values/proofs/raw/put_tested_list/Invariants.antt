-- `jcal_values::raw::put_tested_list` meets its contract.
use mathlib.Core.Path.{◌≡◌}
use lib.ListN.{length}
use Rattle.octets.specs.Pen.{pen}
use Rattle.values.specs.Sorts.{sort_splits}
use Rattle.values.specs.Coded.{sort_said}
use Rattle.jcal_values.specs.Parts.{read_alone}
use Rattle.jcal_values.proofs.ValueLists.{Listed}
use Rattle.jcal_values.proofs.raw.put_tested_list.Given as goal

abbrev pub invariant-loop-n : goal.invariant-loop-n
invariant-loop-n l = (length l.out ≡ length l.initial.out) × Listed (read_alone (sort_said l.sort)) l.many (sort_splits (sort_said l.sort)) l.raw (pen l.initial.out l.at) (pen l.out l.p) (length l.yielded)
