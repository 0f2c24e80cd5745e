-- `content::object::taken` meets its contract.
use native.Mathlib.Omega.{arith}
use borrow.Author.Tests.{ne_eqb}
use Rattle.content.specs.Object.{octets_read}
use Rattle.content.proofs.object.taken.Goals as goal

pub returns-then-c-ne94 : goal.returns-then-c-ne94
unfolding octets_read
returns-then-c-ne94 c = rw (ne_eqb c.args.c 94 c.if-c-ne94.true)

pub returns-in-110 : goal.returns-in-110
unfolding octets_read
returns-in-110 c = rw (c.if-c-ne94.false, c.in-110.is)

pub returns-in-94 : goal.returns-in-94
unfolding octets_read
returns-in-94 c = rw (c.if-c-ne94.false, c.in-94.is)

pub returns-in-39 : goal.returns-in-39
unfolding octets_read
returns-in-39 c = rw (c.if-c-ne94.false, c.in-39.is)

pub returns-in_default : goal.returns-in_default
unfolding octets_read
returns-in_default c = rw (c.if-c-ne94.false, ne_eqb c.args.d 110 (λ h. omega (arith, h)), ne_eqb c.args.d 94 (λ h. omega (arith, h)), ne_eqb c.args.d 39 (λ h. omega (arith, h)))
