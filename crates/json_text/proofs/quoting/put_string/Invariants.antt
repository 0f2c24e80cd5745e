-- `json_text::quoting::put_string` meets its contract.
use Prim.Native.Nat.{◌-◌, ◌≤◌}
use mathlib.Core.Path.{◌≡◌}
use lib.ListN.{length, drop}
use Rattle.octets.specs.Pen.{pen}
use Rattle.octets.proofs.Pen as pens
use Rattle.json_text.specs.Print.{quoted}
use Rattle.json_text.proofs.quoting.put_string.Given as goal

abbrev pub invariant-loop-i : goal.invariant-loop-i
invariant-loop-i l = (l.i ≤ length l.s) × (length l.out ≡ length l.initial.out) × pens.Leads (pen l.initial.out l.initial.p) (quoted l.s) (pen l.out l.p) (quoted (drop l.i l.s))

abbrev pub decreases-loop-i : goal.decreases-loop-i
decreases-loop-i l = length l.s - l.i
