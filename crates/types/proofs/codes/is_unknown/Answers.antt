-- `types::codes::is_unknown` meets its contract.
use mathlib.Core.Path.{sym, ◌∙◌}
use Rattle.types.proofs.Types.{unknown-either}
use Rattle.types.proofs.codes.is_unknown.Goals as goal

pub returns : goal.returns
returns c = c.is_named.ensures ∙ sym (unknown-either _)
