-- `types::rows::is_row_octet` meets its contract.
use mathlib.Core.Path.{sym, ◌∙◌}
use Rattle.types.specs.Rows.{row_octet}
use Rattle.types.proofs.rows.is_row_octet.Goals as goal

pub returns-then-is_upper : goal.returns-then-is_upper
returns-then-is_upper c = unfold row_octet in rw (sym c.is_upper.ensures ∙ c.if-is_upper.true)

pub returns-then-is_digit : goal.returns-then-is_digit
returns-then-is_digit c = unfold row_octet in rw (sym c.is_upper.ensures ∙ c.if-is_upper.false, sym c.is_digit.ensures ∙ c.if-is_digit.true)

pub returns : goal.returns
returns c = unfold row_octet in rw (sym c.is_upper.ensures ∙ c.if-is_upper.false, sym c.is_digit.ensures ∙ c.if-is_digit.false)
