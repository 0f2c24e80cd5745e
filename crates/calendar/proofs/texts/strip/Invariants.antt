-- `calendar::texts::strip` meets its contract: the loop keeps the octets of the basic text (`Writing`).
use Rattle.calendar.proofs.Slots.{Writing}
use Rattle.calendar.proofs.texts.strip.Given as goal

abbrev pub invariant-loop-f : goal.invariant-loop-f
invariant-loop-f l = Writing l.form l.t l.octets l.len l.f-iterator.a.rest.now l.f-iterator.b.rest.now
