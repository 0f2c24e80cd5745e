-- `json_text::numbers::past_fraction` meets its contract.
use mathlib.Core.Path.{refl}
use Rattle.json_text.specs.Promise.{nothing}
use Rattle.json_text.proofs.NumberLaws.{fraction-none, no-digit, fraction-behind}
use Rattle.json_text.proofs.numbers.past_fraction.Goals as goal

pub returns-in_err-past_digits : goal.returns-in_err-past_digits
returns-in_err-past_digits c = rw c.from_residual.ensures (nothing (fraction-none c.args.text.now (no-digit c.past_digits.ensures c.in_err-past_digits.was) refl))

pub returns : goal.returns
returns c = fraction-behind c.past_digits.ensures c.in_ok-past_digits.was c.past_exponent.ensures
