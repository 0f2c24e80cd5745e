-- `content::write::fold_encoded` meets its contract.
use Prim.Native.Nat.{◌≤◌, ◌-◌}
use mathlib.Core.Path.{◌≡◌}
use lib.ListN.{length, drop}
use Rattle.content.specs.Folding.{folding}
use Rattle.content.specs.Carets.{encoded}
use Rattle.content.proofs.Folding.{Leads}
use Rattle.content.proofs.write.fold_encoded.Given as goal

abbrev pub invariant-loop-q : goal.invariant-loop-q
invariant-loop-q l = (l.i ≤ length l.v) × (length l.out ≡ length l.initial.out) × Leads (folding l.initial.out l.initial.q) (encoded l.v) (folding l.out l.q) (encoded (drop l.i l.v))

abbrev pub decreases-loop-q : goal.decreases-loop-q
decreases-loop-q l = length l.v - l.i
