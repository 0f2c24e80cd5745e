-- The number of the digits so far, and what the digits from here on make of it.
use Prim.Native.Nat.{◌≤◌, ◌+◌, min}
use mathlib.Core.Path.{◌≡◌}
use lib.ListN.{drop}
use Rattle.octets.specs.Decimal.{value_from, value_of}
use Rattle.octets.proofs.numbers.value_of.Given as goal

abbrev pub invariant-loop-c : goal.invariant-loop-c
invariant-loop-c l = (l.value ≤ l.limit) × (l.limit ≡ l.most + 1) × (min (value_from l.value (drop l.c-index l.s)) l.limit ≡ min (value_of l.s) l.limit)
