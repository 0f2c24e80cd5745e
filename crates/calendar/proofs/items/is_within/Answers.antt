-- `calendar::items::is_within` meets its contract.
use mathlib.Core.Path.{sym, ◌∙◌}
use Rattle.octets.specs.Decimal.{value_of}
use Rattle.octets.proofs.Classes.{below-between}
use Rattle.calendar.proofs.ItemTests.{capped-bounds, high-enough}
use Rattle.calendar.proofs.items.is_within.Goals as goal

pub returns-then-not-all_digits : goal.returns-then-not-all_digits
returns-then-not-all_digits c = rw (sym c.all_digits.ensures ∙ c.if-not-all_digits.true)

pub returns-then-n-lo : goal.returns-then-n-lo
returns-then-n-lo c = rw (sym c.all_digits.ensures ∙ c.if-not-all_digits.false, ← (capped-bounds c.args.lo c.args.hi (value_of c.args.s.now)), ← c.value_of-n.ensures) (sym (below-between c.args.lo c.args.hi c.value_of-n.result c.if-n-lo.true))

pub returns-else-n-lo : goal.returns-else-n-lo
returns-else-n-lo c = rw (sym c.all_digits.ensures ∙ c.if-not-all_digits.false, ← (capped-bounds c.args.lo c.args.hi (value_of c.args.s.now)), ← c.value_of-n.ensures) (sym (high-enough c.args.lo c.args.hi c.value_of-n.result c.if-n-lo.false))
