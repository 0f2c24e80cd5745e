-- `octets::put_integer_text` meets its contract.
use mathlib.Core.Path.{sym, ◌∙◌}
use Rattle.octets.proofs.Decimal.{negative-text, other_text}
use Rattle.octets.proofs.Pen.{then, as-text}
use Rattle.octets.proofs.numbers.put_integer_text.Goals as goal

pub returns-then-is_negative : goal.returns-then-is_negative
returns-then-is_negative c = as-text (then c.put-to.ensures c.put_trimmed.ensures) (negative-text _ _ c.sign_length-sign.ensures.1 (sym c.is_negative.ensures ∙ c.if-is_negative.true))

pub returns : goal.returns
returns c = as-text c.put_trimmed-2.ensures (other_text _ _ c.sign_length-sign.ensures.1 (sym c.is_negative.ensures ∙ c.if-is_negative.false))
