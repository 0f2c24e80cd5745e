-- `stops_page::most_of` meets its contract: each test decides as in the definition.
use mathlib.Core.Path.{sym, ◌∙◌}
use native.Mathlib.Omega.{arith}
use Rattle.stops_page.proofs.Numbers.{no-digits, zeros, too_many, is-most}
use Rattle.stops_page.proofs.most_of.Goals as goal

pub returns-then-not-all_digits : goal.returns-then-not-all_digits
returns-then-not-all_digits c = no-digits _ (sym c.all_digits.ensures ∙ c.if-not-all_digits.true)

pub returns-then-leading_zeros-ne0 : goal.returns-then-leading_zeros-ne0
returns-then-leading_zeros-ne0 c =
    zeros _ (sym c.all_digits.ensures ∙ c.if-not-all_digits.false) _ c.leading_zeros.ensures.0 c.leading_zeros.ensures.1 c.if-leading_zeros-ne0.true

pub returns-then-n-gt64 : goal.returns-then-n-gt64
returns-then-n-gt64 c =
    too_many _ (sym c.all_digits.ensures ∙ c.if-not-all_digits.false) _ c.leading_zeros.ensures.0 c.leading_zeros.ensures.1
    c.if-leading_zeros-ne0.false _ c.value_of-n.ensures (omega arith)

pub returns : goal.returns
returns c =
    is-most _ (sym c.all_digits.ensures ∙ c.if-not-all_digits.false) _ c.leading_zeros.ensures.0 c.leading_zeros.ensures.1
    c.if-leading_zeros-ne0.false _ c.value_of-n.ensures (omega arith)
