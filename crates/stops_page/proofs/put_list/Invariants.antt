-- `stops_page::put_list` meets its contract: what is written is followed by the stops ahead.
use Prim.Native.Nat.{◌+◌}
use mathlib.Core.Path.{◌≡◌}
use lib.ListN.{length, drop}
use Rattle.octets.proofs.Pen.{Leads}
use Rattle.octets.specs.Pen.{pen}
use Rattle.stops_page.specs.Printing.{stops_shown}
use Rattle.stops_page.proofs.put_list.Given as goal

abbrev pub invariant-loop-i : goal.invariant-loop-i
invariant-loop-i l = (length l.out ≡ length l.initial.out) × Leads (pen l.initial.out l.at) (stops_shown 1 l.list) (pen l.out l.to) (stops_shown (l.i + 1) (drop l.i l.list))
