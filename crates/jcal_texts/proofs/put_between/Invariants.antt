-- `jcal_texts::put_between` meets its contract.
use Prim.Native.Nat.{◌+◌, ◌-◌, ◌≤◌}
use mathlib.Core.Path.{◌≡◌}
use lib.ListN.{length}
use Rattle.octets.specs.Pen.{pen}
use Rattle.jcal_texts.proofs.TextRuns.{Walked}
use Rattle.jcal_texts.proofs.put_between.Given as goal

abbrev pub invariant-loop-out : goal.invariant-loop-out
invariant-loop-out l = (l.i ≤ length l.s) × (l.n ≤ l.i + 1) × (length l.out ≡ length l.initial.out) × Walked l.sep l.other l.s (pen l.initial.out l.at) (pen l.out l.p) l.n l.i

abbrev pub decreases-loop-out : goal.decreases-loop-out
decreases-loop-out l = length l.s - l.i
