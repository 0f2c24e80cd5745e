-- Each turn takes at least one octet.
use Rattle.std.proofs.Common.{◌≡◌, length}
use Rattle.layer_cases.proofs.content_cases.unescape.Given as goal

abbrev pub invariant-loop-left : goal.invariant-loop-left
invariant-loop-left l = length l.out ≡ length l.initial.out

abbrev pub decreases-loop-left : goal.decreases-loop-left
decreases-loop-left l = length l.left
