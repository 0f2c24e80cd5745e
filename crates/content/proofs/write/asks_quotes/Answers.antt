-- `content::write::asks_quotes` meets its contract.
use borrow.Author.Tests.{eq-eqb, ne_eqb}
use Rattle.content.specs.Write.{asks_quotes}
use Rattle.content.proofs.write.asks_quotes.Goals as goal

pub returns-then-c-eq58 : goal.returns-then-c-eq58
returns-then-c-eq58 c = unfold asks_quotes in rw (eq-eqb _ _ c.if-c-eq58.true)

pub returns-then-c-eq59 : goal.returns-then-c-eq59
unfolding asks_quotes
returns-then-c-eq59 c = rw (ne_eqb _ _ c.if-c-eq58.false, eq-eqb _ _ c.if-c-eq59.true)

pub returns : goal.returns
unfolding asks_quotes
returns c = rw (ne_eqb _ _ c.if-c-eq58.false, ne_eqb _ _ c.if-c-eq59.false)
