-- `jcal_texts::put_tested_plain` meets its contract.
use Prim.Native.Nat.{◌-◌, ◌≤◌}
use mathlib.Core.Path.{◌≡◌}
use lib.ListN.{length}
use Rattle.octets.specs.Pen.{pen}
use Rattle.jcal_texts.proofs.Plain.{Plainly}
use Rattle.jcal_texts.proofs.put_tested_plain.Given as goal

abbrev pub invariant-loop-out : goal.invariant-loop-out
invariant-loop-out l = (l.i ≤ length l.s) × (length l.out ≡ length l.initial.out) × Plainly l.s (pen l.initial.out l.initial.p) (pen l.out l.p) l.i

abbrev pub decreases-loop-out : goal.decreases-loop-out
decreases-loop-out l = length l.s - l.i
