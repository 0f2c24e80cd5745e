-- `values::simple::put_float` meets its contract.
use mathlib.Core.Path.{sym, ◌∙◌}
use Rattle.octets.proofs.Pen.{then, as-text}
use Rattle.values.proofs.Floats.{shown-minus, shown-plus}
use Rattle.values.proofs.simple.put_float.Goals as goal

pub returns-then-peek-eq45 : goal.returns-then-peek-eq45
returns-then-peek-eq45 c = as-text (then c.put-to.ensures c.put_all.ensures) (shown-minus _ _ _ c.sign_length-sign.ensures.1 c.leading_zeros-zeros.ensures.1 (sym c.peek.ensures ∙ c.if-peek-eq45.true))

pub returns : goal.returns
returns c = as-text c.put_all-2.ensures (shown-plus _ _ _ c.sign_length-sign.ensures.1 c.leading_zeros-zeros.ensures.1 (λ e. c.if-peek-eq45.false (c.peek.ensures ∙ e)))
