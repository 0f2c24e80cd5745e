-- What is passed up to here is passed in all.
use Prim.Native.Nat.{ℕ, ◌+◌}
use mathlib.Core.Path.{◌≡◌}
use mathlib.Core.Bool.{Bool, not}
use lib.ListN.{length, drop}
use Rattle.octets.specs.declared.names.Class.{Class}
use Rattle.octets.specs.Groups.{belongs}
use Rattle.octets.specs.Search.{until}
use Rattle.octets.proofs.searching.run_end.Given as goal

abbrev pub off : Class → ℕ → Bool
off class c = not (belongs class c)

abbrev pub invariant-loop-i : goal.invariant-loop-i
invariant-loop-i l = l.i + length (until (off l.class) (drop l.i l.s)) ≡ l.at + length (until (off l.class) (drop l.at l.s))
