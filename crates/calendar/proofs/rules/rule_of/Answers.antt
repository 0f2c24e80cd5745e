-- `calendar::rules::rule_of` meets its contract.
use Rattle.octets.specs.Optional.{when}
use Rattle.calendar.specs.Reading.{rule_read}
use Rattle.calendar.proofs.rules.rule_of.Goals as goal

pub returns-then-not-seen-place : goal.returns-then-not-seen-place
returns-then-not-seen-place c = unfold rule_read when in rw (rw c.place.ensures.0 at c.if-not-seen-place.true)

pub returns : goal.returns
returns c = unfold rule_read when in rw (rw c.place.ensures.0 at c.if-not-seen-place.false, c.by_seen.ensures)
