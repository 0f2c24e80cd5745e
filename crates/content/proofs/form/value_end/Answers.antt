-- `content::form::value_end` meets its contract.
use native.Mathlib.Omega.{arith}
use mathlib.Core.Path.{sym, ◌∙◌}
use Rattle.content.proofs.PlaceSpans.{value-plain, value-quoted, value-open}
use Rattle.content.proofs.form.value_end.Goals as goal

pub returns-then-peek-ne34 : goal.returns-then-peek-ne34
returns-then-peek-ne34 c = value-plain c.args.s.now 0 (omega arith) _ (λ e. c.if-peek-ne34.true (c.peek.ensures ∙ e)) c.run_end.ensures

pub returns-then-e-s : goal.returns-then-e-s
returns-then-e-s c = value-quoted c.args.s.now 0 (omega arith) (sym c.peek.ensures ∙ c.if-peek-ne34.false) _ c.find-e.ensures c.if-e-s.true

pub returns-else-e-s : goal.returns-else-e-s
returns-else-e-s c = value-open c.args.s.now 0 (omega arith) (sym c.peek.ensures ∙ c.if-peek-ne34.false) _ c.find-e.ensures c.if-e-s.false
