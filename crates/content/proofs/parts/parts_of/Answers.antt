-- `content::parts::parts_of` meets its contract.
use Rattle.content.proofs.Separators.{cut-colon, cut-none}
use Rattle.content.proofs.parts.parts_of.Goals as goal

pub returns-then-colon-line : goal.returns-then-colon-line
returns-then-colon-line c = cut-colon c.args.line.now c.next_bare-name.result c.next_bare-colon.result c.next_bare-name.ensures c.next_bare-colon.ensures c.if-colon-line.true

pub returns : goal.returns
returns c = cut-none c.args.line.now c.next_bare-name.result c.next_bare-colon.result c.next_bare-name.ensures c.next_bare-colon.ensures c.if-colon-line.false
