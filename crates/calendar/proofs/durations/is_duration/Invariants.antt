-- `calendar::durations::is_duration` meets its contract: the letters so far are in order.
use Rattle.calendar.proofs.Letters.{Spelled}
use Rattle.calendar.proofs.durations.is_duration.Given as goal

abbrev pub invariant-loop-octet : goal.invariant-loop-octet
invariant-loop-octet l = Spelled l.s l.unsigned l.letter l.last l.octet-index
