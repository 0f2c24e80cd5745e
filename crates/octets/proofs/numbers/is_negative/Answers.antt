-- `octets::is_negative` meets its contract.
use borrow.Author.Tests.{eq-eqb, ne_eqb}
use Rattle.octets.specs.Decimal.{minus}
use Rattle.octets.proofs.Decimal.{capped-zero}
use Rattle.octets.proofs.Positions.{from}
use Rattle.octets.proofs.numbers.is_negative.Goals as goal

pub returns-then-peek-eq45 : goal.returns-then-peek-eq45
unfolding minus
returns-then-peek-eq45 c = rw (← c.peek.ensures, eq-eqb _ _ c.if-peek-eq45.true, c.value_of.ensures, capped-zero, from c.args.s.now c.sign_length.result, c.sign_length.ensures.1)

pub returns-else-peek-eq45 : goal.returns-else-peek-eq45
unfolding minus
returns-else-peek-eq45 c = rw (← c.peek.ensures, ne_eqb _ _ c.if-peek-eq45.false)
