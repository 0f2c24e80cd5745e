-- `types::codes::known_code` meets its contract.
use mathlib.Core.Path.{sym}
use Rattle.types.proofs.Types.{code-of-name, code-of-none}
use Rattle.types.proofs.codes.known_code.Goals as goal

pub returns-then-code-gt14 : goal.returns-then-code-gt14
returns-then-code-gt14 c = sym (code-of-none _ c.if-code-gt14.true)

pub returns-else-code-gt14 : goal.returns-else-code-gt14
returns-else-code-gt14 c = sym (code-of-name _ c.if-code-gt14.false)
