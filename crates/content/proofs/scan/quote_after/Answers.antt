-- `content::scan::quote_after` meets its contract.
use borrow.Author.Tests.{eq-eqb, ne_eqb}
use Rattle.content.specs.Line.{quote_after}
use Rattle.content.proofs.scan.quote_after.Goals as goal

pub returns-then-c-eq34 : goal.returns-then-c-eq34
returns-then-c-eq34 c = unfold quote_after in simp (eq-eqb _ _ c.if-c-eq34.true)

pub returns-else-c-eq34 : goal.returns-else-c-eq34
returns-else-c-eq34 c = unfold quote_after in simp (ne_eqb _ _ c.if-c-eq34.false)
