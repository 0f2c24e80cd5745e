-- `values::simple::is_integer` meets its contract.
use mathlib.Core.Path.{sym, ◌∙◌}
use Rattle.octets.proofs.Positions.{from}
use Rattle.values.proofs.Floats.{integer-wrong, integer-some}
use Rattle.values.proofs.simple.is_integer.Goals as goal

pub returns-then-not-all_digits : goal.returns-then-not-all_digits
returns-then-not-all_digits c = sym (integer-wrong _ _ (from c.args.s.now c.sign_length-sign.result ∙ sym c.sign_length-sign.ensures.1) (sym c.all_digits.ensures ∙ c.if-not-all_digits.true))

pub returns : goal.returns
returns c = integer-some _ _ (from c.args.s.now c.sign_length-sign.result ∙ sym c.sign_length-sign.ensures.1) c.value_of.result c.most_of-most.result (sym c.all_digits.ensures ∙ c.if-not-all_digits.false) c.value_of.ensures c.most_of-most.ensures.0
