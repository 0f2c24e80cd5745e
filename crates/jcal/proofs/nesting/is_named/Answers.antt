-- `jcal::nesting::is_named` meets its contract.
use mathlib.Core.Path.{sym, ◌∙◌}
use native.Mathlib.Omega.{arith}
use Rattle.jcal.proofs.OpenComponents.{named_none, named-part, same-empty}
use Rattle.jcal.proofs.nesting.is_named.Goals as goal

pub returns-then-buf-at : goal.returns-then-buf-at
returns-then-buf-at c = sym (named_none c.args.buf.now c.args.at c.args.name.now c.if-buf-at.true ∙ same-empty c.args.name.now)

pub slice_bounds-same_name-count : goal.slice_bounds-same_name-count
slice_bounds-same_name-count c = omega arith

pub slice_bounds-same_name-start : goal.slice_bounds-same_name-start
slice_bounds-same_name-start c = omega arith

pub returns : goal.returns
returns c = c.same_name.ensures ∙ named-part c.args.buf.now c.args.at c.end_at-e.result c.args.name.now c.end_at-e.ensures.ends
