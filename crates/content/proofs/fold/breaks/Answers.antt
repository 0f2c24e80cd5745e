-- `content::fold::breaks` meets its contract.
use mathlib.Core.Path.{sym, ◌∙◌}
use native.Mathlib.Omega.{arith}
use Rattle.octets.proofs.Limits.{most-columns}
use Rattle.content.proofs.Folding.{width-most, breaks-never, breaks-by}
use Rattle.content.proofs.fold.breaks.Goals as goal

pub returns-then-n-eq0 : goal.returns-then-n-eq0
returns-then-n-eq0 c = sym (breaks-never _ _ (sym c.width-n.ensures ∙ c.if-n-eq0.true))

pub overflow_sub-result : goal.overflow_sub-result
overflow_sub-result c = omega (arith, c.width-n.ensures, width-most c.args.c)

pub returns : goal.returns
returns c = breaks-by _ _ _ _ (sym most-columns) c.width-n.ensures c.if-n-eq0.false
