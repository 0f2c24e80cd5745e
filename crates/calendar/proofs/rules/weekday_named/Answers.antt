-- `calendar::rules::weekday_named` meets its contract: a weekday has two letters.
use Rattle.calendar.proofs.Choices.{day-missing, day-there}
use Rattle.calendar.proofs.rules.weekday_named.Goals as goal

pub returns-then-s-ne2 : goal.returns-then-s-ne2
returns-then-s-ne2 c = day-missing _ c.if-s-ne2.true

pub returns : goal.returns
returns c = day-there _ _ _ _ c.if-s-ne2.false c.upper_octet.ensures c.upper_octet-2.ensures c.weekday_lettered.ensures
