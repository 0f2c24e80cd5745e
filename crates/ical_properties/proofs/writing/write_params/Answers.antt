-- `ical_properties::writing::write_params` meets its contract.
use mathlib.Core.Path.{refl, sym, ap, ◌∙◌}
use native.Mathlib.Omega.{arith}
use Rattle.content.specs.Write.{params_text}
use Rattle.content.proofs.Folding.{leads-start, leads-on, leads-end, as-folded}
use Rattle.ical_properties.specs.ParamValues.{param_values_text}
use Rattle.ical_properties.proofs.Parameters.{value-one, values_one, params-end, params-next, params_none, params_more}
use Rattle.ical_properties.proofs.writing.write_params.Goals as goal

pub loop-q-init : goal.loop-q-init
loop-q-init c = (refl, leads-start)

pub returns-then-tag : goal.returns-then-tag
returns-then-tag c = leads-end c.loop-q.invariant.1 (ap params_text (params-end _ _ (sym c.tag.ensures ∙ c.if-tag.true)) ∙ params_none)

pub loop-q-smaller-then-tag-eq-STRING : goal.loop-q-smaller-then-tag-eq-STRING
loop-q-smaller-then-tag-eq-STRING c = let k = c.text_at-k.ensures.behind in
    omega (arith, k.more (λ e. c.if-tag.false (c.tag.ensures ∙ e)), c.text_at-x.ensures.behind.low k.high, c.text_at-x.ensures.behind.high)

pub loop-q-preserved-then-tag-eq-STRING : goal.loop-q-preserved-then-tag-eq-STRING
loop-q-preserved-then-tag-eq-STRING c = let e = ap params_text (params-next _ _ (λ e. c.if-tag.false (c.tag.ensures ∙ e)) c.text_at-k.ensures c.text_at-x.ensures.behind) ∙ params_more _ _ _ in
    (omega (arith, c.loop-q.invariant.0), leads-on (leads-on c.loop-q.invariant.1 c.begin_param-q.ensures e) (as-folded c.write_param_value-q.ensures (sym (ap param_values_text (value-one _ _ (sym c.tag-in-loop-q.ensures ∙ c.if-tag-eq-STRING.true) c.text_at-x.ensures) ∙ values_one _))) refl)

pub write_param_values-q-requires : goal.write_param_values-q-requires
write_param_values-q-requires c = λ e. c.if-tag-eq-STRING.false (c.tag-in-loop-q.ensures ∙ e)

pub loop-q-smaller : goal.loop-q-smaller
loop-q-smaller c = let k = c.text_at-k.ensures.behind in
    omega (arith, k.more (λ e. c.if-tag.false (c.tag.ensures ∙ e)), c.behind-i.ensures.low k.high, c.behind-i.ensures.high)

pub loop-q-preserved : goal.loop-q-preserved
loop-q-preserved c = let e = ap params_text (params-next _ _ (λ e. c.if-tag.false (c.tag.ensures ∙ e)) c.text_at-k.ensures c.behind-i.ensures) ∙ params_more _ _ _ in
    (omega (arith, c.loop-q.invariant.0), leads-on (leads-on c.loop-q.invariant.1 c.begin_param-q.ensures e) c.write_param_values-q.ensures refl)
