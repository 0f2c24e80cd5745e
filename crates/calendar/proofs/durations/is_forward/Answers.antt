-- `calendar::durations::is_forward` meets its contract.
use borrow.Author.Tests.{ne_eqb}
use Rattle.calendar.specs.Durations.{forward_is}
use Rattle.calendar.proofs.Periods.{minus-upper}
use Rattle.calendar.proofs.durations.is_forward.Goals as goal

pub returns-then-peek-ne45 : goal.returns-then-peek-ne45
unfolding forward_is
returns-then-peek-ne45 c = rw (minus-upper c.args.s.now, ← c.peek.ensures, ne_eqb _ _ c.if-peek-ne45.true) c.is_duration.ensures

pub returns-else-peek-ne45 : goal.returns-else-peek-ne45
unfolding forward_is
returns-else-peek-ne45 c = rw (minus-upper c.args.s.now, ← c.peek.ensures, c.if-peek-ne45.false)
