-- `json_text::quoting::escape_for` meets its contract.
use mathlib.Core.Path.{◌≡◌}
use native.Mathlib.Omega.{arith}
use borrow.Author.Tests.{eqb-true, eqb-false}
use lib.Dec.{eqb}
use Rattle.octets.proofs.Cases.{cases}
use Rattle.json_text.specs.Print.{escaped}
use Rattle.json_text.proofs.quoting.escape_for.Goals as goal
use borrow.Author.Tests.{ne_eqb}

pub returns-in-34 : goal.returns-in-34
unfolding escaped
returns-in-34 c = cases (eqb c.args.b 34) (λ y. rw (eqb-true _ 34 y)) (λ n. let e : c.args.b ≡ 92 = grind (arith, eqb-false _ 34 n, c.in-34) in rw e)

pub returns-in-10 : goal.returns-in-10
unfolding escaped
returns-in-10 c = rw c.in-10.is

pub returns-in-9 : goal.returns-in-9
unfolding escaped
returns-in-9 c = rw c.in-9.is

pub returns-in_default : goal.returns-in_default
unfolding escaped
returns-in_default c = rw (ne_eqb c.args.b 34 (λ h. grind (arith, h, c.in_default)), ne_eqb c.args.b 92 (λ h. grind (arith, h, c.in_default)), ne_eqb c.args.b 10 (λ h. grind (arith, h, c.in_default)), ne_eqb c.args.b 9 (λ h. grind (arith, h, c.in_default)))
