-- `types::rows::is_kind` meets its contract.
use mathlib.Core.Path.{sym, ap, ◌∙◌}
use Rattle.types.specs.Codes.{type_splits}
use Rattle.types.proofs.CodeLaws.{of-code, of-code-within, no-code}
use Rattle.types.proofs.rows.is_kind.Goals as goal

pub returns-then-many-eq0 : goal.returns-then-many-eq0
returns-then-many-eq0 c = rw (of-code-within c.in-Some.kind _ c.in-Some.ensures, c.if-many-eq0.true)

pub returns-then-many-eq1 : goal.returns-then-many-eq1
returns-then-many-eq1 c = rw (of-code-within c.in-Some.kind _ c.in-Some.ensures, c.if-many-eq1.true) (c.splits.ensures ∙ ap type_splits (sym (of-code c.in-Some.kind _ c.in-Some.ensures)))

pub returns-in-None : goal.returns-in-None
returns-in-None c = rw (no-code _ c.in-None.ensures)
