-- `content::fold::fold_long` meets its contract.
use Prim.Native.Nat.{◌≤◌, ◌-◌}
use mathlib.Core.Path.{◌≡◌}
use mathlib.Core.Bool.{not}
use lib.Dec.{eqb}
use lib.ListN.{length, drop}
use Rattle.content.specs.Folding.{folding, cased}
use Rattle.content.proofs.Folding.{Leads}
use Rattle.content.proofs.fold.fold_long.Given as goal

abbrev pub invariant-loop-i : goal.invariant-loop-i
invariant-loop-i g l = (l.i ≤ length l.s) × (length l.out ≡ length l.initial.out) × Leads (folding l.initial.out l.initial.q) (cased (not (eqb g.row.UPPER 0)) l.s) (folding l.out l.q) (cased (not (eqb g.row.UPPER 0)) (drop l.i l.s))

abbrev pub decreases-loop-i : goal.decreases-loop-i
decreases-loop-i g l = length l.s - l.i
