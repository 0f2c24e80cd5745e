-- `jcal::nesting::after_first` meets its contract.
use mathlib.Core.Path.{sym, ◌∙◌}
use native.Mathlib.Omega.{arith}
use Rattle.jcal.proofs.OpenComponents.{first_else, first-opens, first-other}
use Rattle.jcal.proofs.nesting.after_first.Goals as goal

pub slice_bounds-same_name-count : goal.slice_bounds-same_name-count
slice_bounds-same_name-count c = omega (arith, (rw c.in-Opens.is at c.args.line.named).low)

pub slice_bounds-same_name-start : goal.slice_bounds-same_name-start
slice_bounds-same_name-start c = (rw c.in-Opens.is at c.args.line.named).low

pub slice_bounds-same_name-end : goal.slice_bounds-same_name-end
slice_bounds-same_name-end c = (rw c.in-Opens.is at c.args.line.named).high

pub returns-then-same_name : goal.returns-then-same_name
returns-then-same_name c = rw c.in-Opens.is (first-opens c.args.line.buf.now c.args.names.now c.told-names _ c.args.line.end (rw c.in-Opens.is at c.args.line.named) (sym c.same_name.ensures ∙ c.if-same_name.true))

pub returns-else-same_name : goal.returns-else-same_name
returns-else-same_name c = rw c.in-Opens.is (first-other c.args.line.buf.now c.args.names.now c.told-names _ c.args.line.end (rw c.in-Opens.is at c.args.line.named) (sym c.same_name.ensures ∙ c.if-same_name.false))

pub returns-in_default : goal.returns-in_default
returns-in_default c = first_else c.args.line.buf.now c.args.names.now c.told-names _ c.in_default.not-Opens
