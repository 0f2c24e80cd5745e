-- `values::simple::is_float` meets its contract.
use mathlib.Core.Path.{sym, ◌∙◌}
use Rattle.octets.proofs.Positions.{from}
use Rattle.values.proofs.Floats.{float-wrong, float-whole, float-point}
use Rattle.values.proofs.Halves.{found-le}
use Rattle.values.proofs.simple.is_float.Goals as goal

pub slice_bounds-all_digits-end : goal.slice_bounds-all_digits-end
slice_bounds-all_digits-end c = found-le _ _ _ c.find-e.ensures

pub returns-then-not-all_digits : goal.returns-then-not-all_digits
returns-then-not-all_digits c = sym (float-wrong _ _ _ (from c.args.s.now c.sign_length-sign.result ∙ sym c.sign_length-sign.ensures.1) c.find-e.ensures (sym c.all_digits.ensures ∙ c.if-not-all_digits.true))

pub returns-then-e-rest : goal.returns-then-e-rest
returns-then-e-rest c = sym (float-whole _ _ _ (from c.args.s.now c.sign_length-sign.result ∙ sym c.sign_length-sign.ensures.1) c.find-e.ensures (sym c.all_digits.ensures ∙ c.if-not-all_digits.false) c.if-e-rest.true)

pub returns : goal.returns
returns c = c.all_digits-2.ensures ∙ sym (float-point _ _ _ (from c.args.s.now c.sign_length-sign.result ∙ sym c.sign_length-sign.ensures.1) c.find-e.ensures (sym c.all_digits.ensures ∙ c.if-not-all_digits.false) c.if-e-rest.false)
