-- `calendar::texts::clock_in` meets its contract: the numbers at their places are a time.
use Rattle.calendar.specs.Dates.{clock_in}
use Rattle.calendar.proofs.texts.clock_in.Goals as goal

pub returns : goal.returns
unfolding clock_in
returns c = rw (← c.pair.ensures.0, ← c.pair-2.ensures.0, ← c.pair-3.ensures.0) c.is_clock.ensures
