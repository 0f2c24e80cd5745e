-- `calendar::texts::read` meets its contract: the loop reads places into the front of the array (`Reading`).
use Rattle.calendar.proofs.Slots.{Reading}
use Rattle.calendar.proofs.texts.read.Given as goal

abbrev pub invariant-loop-k : goal.invariant-loop-k
invariant-loop-k l = Reading l.whole l.form l.s l.octets l.i l.k
