-- `calendar::durations::is_period_end` meets its contract.
use mathlib.Core.Path.{sym, ◌∙◌}
use Rattle.calendar.proofs.Periods.{end_is}
use Rattle.calendar.proofs.durations.is_period_end.Goals as goal

pub returns-then-is_basic : goal.returns-then-is_basic
returns-then-is_basic c = rw (end_is, sym c.is_basic.ensures ∙ c.if-is_basic.true) c.if-is_basic.true

pub returns-else-is_basic : goal.returns-else-is_basic
returns-else-is_basic c = rw (end_is, sym c.is_basic.ensures ∙ c.if-is_basic.false) c.is_forward.ensures
