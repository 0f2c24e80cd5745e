-- `content::parts::param_at` meets its contract.
use Rattle.content.proofs.Separators.{param-equals, param-bare}
use Rattle.content.proofs.parts.param_at.Goals as goal

pub returns-then-name-end : goal.returns-then-name-end
returns-then-name-end c = param-equals c.args.s.now c.args.at c.next_bare-name.result c.next_bare-end.result c.next_bare-name.ensures c.next_bare-end.ensures c.requires c.if-name-end.true

pub returns : goal.returns
returns c = param-bare c.args.s.now c.args.at c.next_bare-name.result c.next_bare-end.result c.next_bare-name.ensures c.next_bare-end.ensures c.requires c.if-name-end.false
