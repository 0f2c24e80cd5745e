-- `content::form::param_end` meets its contract.
use native.Mathlib.Omega.{arith}
use mathlib.Core.Path.{sym, ◌∙◌}
use Rattle.content.proofs.PlaceSpans.{param-none, param-not, param-inside, param-on, behind-first}
use Rattle.content.proofs.form.param_end.Goals as goal

pub returns-then-n-eq0 : goal.returns-then-n-eq0
returns-then-n-eq0 c = param-none c.args.s.now 0 (omega arith) c.run_end-n.result c.run_end-n.ensures c.if-n-eq0.true

pub returns-then-peek-ne61 : goal.returns-then-peek-ne61
returns-then-peek-ne61 c = param-not c.args.s.now 0 (omega arith) c.run_end-n.result c.run_end-n.ensures c.if-n-eq0.false (λ e. c.if-peek-ne61.true (c.peek.ensures ∙ e))

pub returns : goal.returns
returns c = let i = param-inside c.args.s.now 0 (omega arith) c.run_end-n.result c.run_end-n.ensures c.if-n-eq0.false (sym c.peek.ensures ∙ c.if-peek-ne61.false) in
    param-on c.args.s.now 0 (omega arith) c.run_end-n.result c.run_end-n.ensures c.if-n-eq0.false _ (sym c.peek.ensures ∙ c.if-peek-ne61.false)
    (behind-first _ _ _ _ _ (omega (arith, i)) c.value_end.ensures)
