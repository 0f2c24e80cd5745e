-- What passed so far, and what is left.
use Prim.Native.Nat.{ℕ}
use mathlib.Core.Bool.{Bool}
use mathlib.Core.Path.{◌≡◌}
use lib.ListN.{drop}
use Rattle.octets.specs.Basics.{◌and◌, all}
use Rattle.octets.proofs.names.each_is.Given as goal

abbrev pub invariant-loop-c : goal.invariant-loop-c
invariant-loop-c g l = (p : ℕ → Bool) → ((c : ℕ) (r : Bool) → goal.F-post g l.test c r → r ≡ p c) → (l.so_far and all p (drop l.c-index l.s)) ≡ all p l.s
