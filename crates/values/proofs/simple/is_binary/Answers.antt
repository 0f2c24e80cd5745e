-- `values::simple::is_binary` meets its contract.
use mathlib.Core.Path.{◌∙◌}
use borrow.Author.Tests.{ne_eqb}
use Rattle.values.proofs.Binaries.{no-groups, groups}
use Rattle.values.proofs.simple.is_binary.Goals as goal

pub returns-then-s-eq0 : goal.returns-then-s-eq0
returns-then-s-eq0 c = groups _ c.if-s-eq0.true c.before_padding.ensures c.all_base64.ensures

pub returns-else-s-eq0 : goal.returns-else-s-eq0
returns-else-s-eq0 c = ne_eqb _ 0 c.if-s-eq0.false ∙ no-groups _ c.if-s-eq0.false
