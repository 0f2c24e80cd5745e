-- `content::scan::first_bare` meets its contract.
use Prim.Native.Nat.{◌+◌}
use mathlib.Core.Path.{◌≡◌}
use mathlib.Core.Bool.{false}
use lib.Dec.{eqb}
use lib.ListN.{length, drop}
use Rattle.octets.specs.Basics.{◌or◌}
use Rattle.content.specs.Scan.{until_bare}
use Rattle.content.proofs.scan.first_bare.Given as goal

abbrev pub invariant-loop-i : goal.invariant-loop-i
invariant-loop-i l = l.i + length (until_bare (λ c. eqb c l.a or eqb c l.b) false (drop l.i l.s)) ≡ length (until_bare (λ c. eqb c l.a or eqb c l.b) false l.s)
