-- The octets so far are counted, and those from here on are not yet.
use Prim.Native.Nat.{◌≤◌}
use mathlib.Core.Path.{◌≡◌}
use lib.Dec.{eqb}
use lib.ListN.{drop}
use Rattle.octets.specs.Basics.{◌and◌, all}
use Rattle.octets.specs.Groups.{belongs}
use Rattle.octets.proofs.searching.is_block_of.Given as goal

abbrev pub invariant-loop-c : goal.invariant-loop-c
invariant-loop-c l = (l.n ≤ l.c-index) × ((eqb l.n l.c-index and all (belongs l.class) (drop l.c-index l.s)) ≡ all (belongs l.class) l.s)
