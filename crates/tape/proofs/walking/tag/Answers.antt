-- `tape::walking::tag` meets its contract.
use mathlib.Core.Path.{sym}
use Rattle.tape.proofs.Tags.{read-tag, past-tag}
use Rattle.tape.proofs.walking.tag.Goals as goal

pub returns-then-at-t : goal.returns-then-at-t
returns-then-at-t c = read-tag _ _ c.if-at-t.true

pub returns-else-at-t : goal.returns-else-at-t
returns-else-at-t c = sym (past-tag _ _ c.if-at-t.false)
