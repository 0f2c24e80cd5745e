-- What is left stands at the end of the slice, and the run goes on in it.
use Prim.Native.Nat.{◌+◌, ◌-◌, ◌≤◌}
use mathlib.Core.Bool.{not}
use mathlib.Core.Path.{◌≡◌}
use lib.ListN.{length, drop}
use Rattle.octets.specs.Groups.{belongs}
use Rattle.octets.specs.Search.{until}
use Rattle.octets.proofs.searching.long_run_end.Given as goal

abbrev pub invariant-loop-block : goal.invariant-loop-block
invariant-loop-block l = (length l.rest ≤ length l.s) × (l.rest ≡ drop (length l.s - length l.rest) l.s)
    × (length l.s - length l.rest + length (until (λ c. not (belongs l.class c)) l.rest) ≡ l.at + length (until (λ c. not (belongs l.class c)) (drop l.at l.s)))

abbrev pub decreases-loop-block : goal.decreases-loop-block
decreases-loop-block l = length l.rest
