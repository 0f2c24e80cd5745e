-- `octets::sign_length` meets its contract.
use mathlib.Core.Path.{sym, ap, ◌∙◌}
use native.Mathlib.Omega.{arith}
use Rattle.octets.specs.Decimal.{is_sign}
use Rattle.octets.proofs.Decimal.{sign_there, unsigned-sign, unsigned-bare}
use Rattle.octets.proofs.numbers.sign_length.Goals as goal

pub returns-then-is_sign : goal.returns-then-is_sign
returns-then-is_sign c = (sign_there _ (ap is_sign (sym c.peek.ensures) ∙ sym c.is_sign.ensures ∙ c.if-is_sign.true), unsigned-sign _ (ap is_sign (sym c.peek.ensures) ∙ sym c.is_sign.ensures ∙ c.if-is_sign.true))

pub returns-else-is_sign : goal.returns-else-is_sign
returns-else-is_sign c = (omega arith, unsigned-bare _ (ap is_sign (sym c.peek.ensures) ∙ sym c.is_sign.ensures ∙ c.if-is_sign.false))
