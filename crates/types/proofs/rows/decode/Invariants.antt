-- `types::rows::decode` meets its contract.
use Rattle.std.proofs.Common.{◌+◌, ◌*◌, ◌≤◌, ◌≡◌, length}
use Rattle.types.proofs.Frames.{Decoded}
use Rattle.types.proofs.rows.decode.Given as goal

abbrev pub invariant-loop-left : goal.invariant-loop-left
invariant-loop-left l = (length l.line ≤ 68) × (2 * l.n + length l.left ≡ length l.line) × (length l.frame ≡ 34) × (length l.initial.frame ≡ 34) × Decoded l.line l.n l.frame l.left

abbrev pub decreases-loop-left : goal.decreases-loop-left
decreases-loop-left l = length l.left
