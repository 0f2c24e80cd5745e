-- `tape::walking::after` meets its contract.
use Rattle.tape.proofs.Walks.{after-past}
use Rattle.tape.proofs.walking.after.Goals as goal

pub returns-else-at-t : goal.returns-else-at-t
returns-else-at-t c = after-past _ _ c.if-at-t.false
