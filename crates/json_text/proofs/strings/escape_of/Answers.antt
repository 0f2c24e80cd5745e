-- `json_text::strings::escape_of` meets its contract.
use mathlib.Core.Path.{◌≡◌}
use native.Mathlib.Omega.{arith}
use borrow.Author.Tests.{eqb-true, eqb-false}
use lib.Dec.{eqb}
use Rattle.octets.proofs.Cases.{cases}
use Rattle.json_text.specs.Strings.{escape_of}
use Rattle.json_text.specs.Promise.{unless_zero}
use Rattle.json_text.proofs.StringLaws.{none-is}
use Rattle.json_text.proofs.strings.escape_of.Goals as goal
use borrow.Author.Tests.{ne_eqb}

pub returns-in-34 : goal.returns-in-34
unfolding unless_zero escape_of
returns-in-34 c = cases (eqb c.args.b 34) (λ y. rw (eqb-true _ 34 y))
    (λ n. cases (eqb c.args.b 92) (λ y. rw (eqb-true _ 92 y)) (λ m. let e : c.args.b ≡ 47 = grind (arith, eqb-false _ 34 n, eqb-false _ 92 m, c.in-34) in rw e))

pub returns-in-98 : goal.returns-in-98
unfolding unless_zero escape_of
returns-in-98 c = rw c.in-98.is

pub returns-in-102 : goal.returns-in-102
unfolding unless_zero escape_of
returns-in-102 c = rw c.in-102.is

pub returns-in-110 : goal.returns-in-110
unfolding unless_zero escape_of
returns-in-110 c = rw c.in-110.is

pub returns-in-114 : goal.returns-in-114
unfolding unless_zero escape_of
returns-in-114 c = rw c.in-114.is

pub returns-in-116 : goal.returns-in-116
unfolding unless_zero escape_of
returns-in-116 c = rw c.in-116.is

pub returns-in_default : goal.returns-in_default
unfolding escape_of
returns-in_default c = none-is _ (rw (ne_eqb c.args.b 34 (λ h. grind (arith, h, c.in_default)), ne_eqb c.args.b 92 (λ h. grind (arith, h, c.in_default)), ne_eqb c.args.b 47 (λ h. grind (arith, h, c.in_default)), ne_eqb c.args.b 98 (λ h. grind (arith, h, c.in_default)), ne_eqb c.args.b 102 (λ h. grind (arith, h, c.in_default)), ne_eqb c.args.b 110 (λ h. grind (arith, h, c.in_default)), ne_eqb c.args.b 114 (λ h. grind (arith, h, c.in_default)), ne_eqb c.args.b 116 (λ h. grind (arith, h, c.in_default))))
