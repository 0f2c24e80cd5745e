-- `jcal::nesting::test_structure` meets its contract.
use Prim.Native.Nat.{◌<◌}
use mathlib.Core.Path.{◌≡◌}
use lib.ListN.{drop}
use Rattle.octets.specs.Limits.{most_levels}
use Rattle.octets.specs.Basics.{◌and◌}
use Rattle.conversion_theory.specs.Structure.{fresh, nest_after}
use Rattle.jcal.specs.Order.{ordered, ordered_from}
use Rattle.jcal.specs.Nesting.{nest_of, around_of}
use Rattle.jcal.specs.Events.{events_in}
use Rattle.jcal.proofs.nesting.test_structure.Given as goal

abbrev pub invariant-loop-line : goal.invariant-loop-line
invariant-loop-line l = (l.line-iterator.buf.now ≡ l.buf) × (nest_after fresh (events_in l.buf) ≡ nest_after (nest_of l.buf l.names l.nesting) (events_in (drop l.line-iterator.at l.buf))) × (around_of l.nesting < most_levels) × (ordered (events_in l.buf) ≡ (l.in_order and ordered_from l.behind (events_in (drop l.line-iterator.at l.buf))))
