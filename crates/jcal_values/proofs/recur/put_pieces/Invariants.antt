-- `jcal_values::recur::put_pieces` meets its contract: what is written is followed by the pieces ahead.
use Prim.Native.Nat.{◌-◌, ◌≤◌}
use mathlib.Core.Path.{◌≡◌}
use lib.ListN.{length, drop}
use Rattle.octets.specs.Pen.{pen}
use Rattle.octets.proofs.Pen.{Leads}
use Rattle.values.specs.Shown.{list_shown}
use Rattle.jcal_values.proofs.recur.put_pieces.Given as goal

abbrev pub invariant-loop-at : goal.invariant-loop-at
invariant-loop-at g l = (l.i ≤ length l.s) × (length l.out ≡ length l.initial.out) × Leads (pen l.initial.out l.at) (list_shown (g.P.Piece.shown l.piece) l.sep l.s) (pen l.out l.p) (list_shown (g.P.Piece.shown l.piece) l.sep (drop l.i l.s))

abbrev pub decreases-loop-at : goal.decreases-loop-at
decreases-loop-at g l = length l.s - l.i
