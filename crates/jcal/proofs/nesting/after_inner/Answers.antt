-- `jcal::nesting::after_inner` meets its contract.
use mathlib.Core.Path.{sym, ◌∙◌}
use native.Mathlib.Omega.{arith}
use Rattle.octets.proofs.Limits.{most-levels}
use Rattle.jcal.proofs.OpenComponents.{inner-opens, inner-deep, inner-other, inner_last, inner-closes, inner-plain, inner-broken}
use Rattle.jcal.proofs.nesting.after_inner.Goals as goal

pub overflow_add-next : goal.overflow_add-next
overflow_add-next c = omega (arith, most-levels)

pub returns-then-next-lt-MOST_LEVELS : goal.returns-then-next-lt-MOST_LEVELS
returns-then-next-lt-MOST_LEVELS c = rw c.in-Opens.is (inner-opens c.args.line.buf.now c.args.names.now c.told-names _ c.args.around c.if-next-lt-MOST_LEVELS.true)

pub offset_bounds-names-around : goal.offset_bounds-names-around
offset_bounds-names-around c = omega (arith, most-levels)

pub bounds-names-around : goal.bounds-names-around
bounds-names-around c = omega (arith, most-levels)

pub slice_bounds-is_named-count : goal.slice_bounds-is_named-count
slice_bounds-is_named-count c = omega (arith, (rw c.in-Closes.is at c.args.line.named).low)

pub slice_bounds-is_named-start : goal.slice_bounds-is_named-start
slice_bounds-is_named-start c = (rw c.in-Closes.is at c.args.line.named).low

pub slice_bounds-is_named-end : goal.slice_bounds-is_named-end
slice_bounds-is_named-end c = (rw c.in-Closes.is at c.args.line.named).high

pub returns-then-not-is_named : goal.returns-then-not-is_named
returns-then-not-is_named c = rw c.in-Closes.is (inner-other c.args.line.buf.now c.args.names.now c.told-names _ c.args.line.end c.args.around (rw c.in-Closes.is at c.args.line.named) (sym c.is_named.ensures ∙ c.if-not-is_named.true))

pub returns-then-around-eq0 : goal.returns-then-around-eq0
returns-then-around-eq0 c = rw c.in-Closes.is (inner_last c.args.line.buf.now c.args.names.now c.told-names _ c.args.line.end c.args.around (rw c.in-Closes.is at c.args.line.named) (sym c.is_named.ensures ∙ c.if-not-is_named.false) c.if-around-eq0.true)

pub returns-else-next-lt-MOST_LEVELS : goal.returns-else-next-lt-MOST_LEVELS
returns-else-next-lt-MOST_LEVELS c = rw c.in-Opens.is (inner-deep c.args.line.buf.now c.args.names.now c.told-names _ c.args.around c.if-next-lt-MOST_LEVELS.false)

pub returns-else-around-eq0 : goal.returns-else-around-eq0
returns-else-around-eq0 c = rw c.in-Closes.is (inner-closes c.args.line.buf.now c.args.names.now c.told-names _ c.args.line.end c.args.around (rw c.in-Closes.is at c.args.line.named) (sym c.is_named.ensures ∙ c.if-not-is_named.false) c.if-around-eq0.false c.requires)

pub returns-in-Plain : goal.returns-in-Plain
returns-in-Plain c = rw c.in-Plain.is (inner-plain c.args.line.buf.now c.args.names.now c.told-names c.args.around c.requires)

pub returns-in-Broken : goal.returns-in-Broken
returns-in-Broken c = rw c.in-Broken.is (inner-broken c.args.line.buf.now c.args.names.now c.told-names c.args.around)
