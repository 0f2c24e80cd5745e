-- `content::object::put_decoded` meets its contract.
use lib.ListN.{length, drop}
use mathlib.Core.Bool.{false}
use mathlib.Core.Path.{◌≡◌}
use Prim.Native.Nat.{◌-◌}
use Rattle.content.specs.Carets.{decoded, decoded_from}
use Rattle.json_text.specs.Print.{quoted}
use Rattle.octets.proofs.Pen.{Leads}
use Rattle.octets.specs.Pen.{pen}
use Rattle.content.proofs.object.put_decoded.Given as goal

abbrev pub invariant-loop-i : goal.invariant-loop-i
invariant-loop-i l = (length l.out ≡ length l.initial.out) × Leads (pen l.initial.out l.at) (quoted (decoded l.v)) (pen l.out l.to) (quoted (decoded_from false (drop l.i l.v)))

abbrev pub decreases-loop-i : goal.decreases-loop-i
decreases-loop-i l = length l.v - l.i
