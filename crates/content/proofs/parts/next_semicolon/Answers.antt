-- `content::parts::next_semicolon` meets its contract.
use Prim.Native.Nat.{ℕ}
use mathlib.Core.Bool.{false}
use mathlib.Core.List.{List, [], ◌∷◌}
use mathlib.Core.Path.{◌≡◌}
use native.Mathlib.Omega.{arith}
use lib.Dec.{eqb}
use lib.ListN.{length, get_or}
use Rattle.octets.specs.Basics.{◌or◌}
use Rattle.content.specs.Scan.{until_bare}
use Rattle.content.proofs.parts.next_semicolon.Goals as goal

here : (s : List ℕ) → get_or s 0 0 ≡ 59 → 0 ≡ length (until_bare (λ c. eqb c 59 or eqb c 59) false s)
unfolding until_bare
here [] e = absurd (omega arith)
here (c ∷ s) e = let d : c ≡ 59 = e in rw d

pub returns-then-peek-eq59 : goal.returns-then-peek-eq59
returns-then-peek-eq59 c = here c.args.s.now (rw (← c.peek.ensures) c.if-peek-eq59.true)

pub returns : goal.returns
returns c = omega (arith, c.next_bare.ensures)
