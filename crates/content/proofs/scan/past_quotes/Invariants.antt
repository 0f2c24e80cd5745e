-- `content::scan::past_quotes` meets its contract.
use lib.ListN.{length, drop}
use lib.Dec.{eqb}
use mathlib.Core.Bool.{false}
use mathlib.Core.Path.{◌≡◌}
use Prim.Native.Nat.{◌+◌}
use Rattle.content.specs.Scan.{until_bare}
use Rattle.octets.specs.Basics.{◌or◌}
use Rattle.content.proofs.scan.past_quotes.Given as goal

abbrev pub invariant-loop-i : goal.invariant-loop-i
invariant-loop-i l = l.i + length (until_bare (λ c. eqb c l.a or eqb c l.b) l.quoted (drop l.i l.s)) ≡ length (until_bare (λ c. eqb c l.a or eqb c l.b) false l.s)
