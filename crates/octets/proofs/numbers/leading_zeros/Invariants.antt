-- The octets up to here are zeros that are left out.
use mathlib.Core.Path.{◌≡◌}
use lib.ListN.{drop}
use Rattle.octets.specs.Decimal.{trim}
use Rattle.octets.proofs.numbers.leading_zeros.Given as goal

abbrev pub invariant-loop-i : goal.invariant-loop-i
invariant-loop-i l = trim l.s ≡ trim (drop l.i l.s)
