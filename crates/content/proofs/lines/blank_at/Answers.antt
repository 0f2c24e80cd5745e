-- `content::lines::blank_at` meets its contract.
use Rattle.content.specs.Lines.{is_blank}
use borrow.Author.Tests.{eq-eqb, ne_eqb}
use Rattle.content.proofs.lines.blank_at.Goals as goal

pub returns-then-c-eq32 : goal.returns-then-c-eq32
returns-then-c-eq32 c = unfold is_blank in rw (← c.peek-c.ensures, eq-eqb _ _ c.if-c-eq32.true)

pub returns-else-c-eq32 : goal.returns-else-c-eq32
returns-else-c-eq32 c = unfold is_blank in rw (← c.peek-c.ensures, ne_eqb _ _ c.if-c-eq32.false)
