-- `types::codes::does_split` meets its contract.
use mathlib.Core.Path.{sym, ap, ◌∙◌}
use Rattle.types.specs.Codes.{type_splits}
use Rattle.types.proofs.CodeLaws.{of-code, no-code}
use Rattle.types.proofs.codes.does_split.Goals as goal

pub returns-in-Some : goal.returns-in-Some
returns-in-Some c = c.splits.ensures ∙ ap type_splits (sym (of-code c.in-Some.kind _ c.in-Some.ensures))

pub returns-in-None : goal.returns-in-None
unfolding type_splits
returns-in-None c = rw (no-code _ c.in-None.ensures)
