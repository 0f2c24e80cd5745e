-- `calendar::durations::letter_with` meets its contract.
use mathlib.Core.Path.{sym, ◌∙◌}
use Rattle.calendar.specs.Letters.{letter_with}
use Rattle.calendar.proofs.durations.letter_with.Goals as goal

pub returns-then-is_digit : goal.returns-then-is_digit
returns-then-is_digit c = unfold letter_with in rw (sym c.is_digit.ensures ∙ c.if-is_digit.true)

pub returns-else-is_digit : goal.returns-else-is_digit
returns-else-is_digit c = unfold letter_with in rw (sym c.is_digit.ensures ∙ c.if-is_digit.false)
