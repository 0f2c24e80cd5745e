-- `stops_page::put_stops` meets its contract: what is written is followed by the stops ahead.
use Prim.Native.Nat.{◌+◌, ◌<◌, ◌^◌}
use mathlib.Core.Path.{◌≡◌}
use lib.ListN.{length}
use Rattle.octets.proofs.Pen.{Leads}
use Rattle.octets.specs.Pen.{pen}
use Rattle.stop_list.specs.Runs.{stops_of}
use Rattle.stops_page.specs.Printing.{stops_shown}
use Rattle.stops_page.proofs.put_stops.Given as goal

abbrev pub invariant-loop-i : goal.invariant-loop-i
invariant-loop-i l =
    (goal.iterator-loop-i).can_next l.i-iterator × (goal.iterator-loop-i).is_finite l.i-iterator
    × (l.i-iterator.count + length (stops_of l.i-iterator.iter) < 2 ^ 64)
    × (length l.out ≡ length l.initial.out)
    × Leads (pen l.initial.out l.at) (stops_shown 1 (stops_of l.fn.run)) (pen l.out l.to) (stops_shown (l.i-iterator.count + 1) (stops_of l.i-iterator.iter))
