-- `ical_properties::params::may_return` meets its contract.
use mathlib.Core.Path.{refl, sym, ap, ◌∙◌}
use native.Mathlib.Omega.{arith}
use Rattle.octets.specs.Basics.{all}
use Rattle.octets.specs.Classes.{text_octet}
use Rattle.content.specs.Parameters.{may_return}
use Rattle.ical_properties.proofs.Parameters.{value-one, texts-one, params-end, params-first, params-next, return-none, return-value, return-off, return-on}
use Rattle.ical_properties.proofs.params.may_return.Goals as goal

pub loop-at-init : goal.loop-at-init
loop-at-init c = refl

pub returns-then-tag : goal.returns-then-tag
returns-then-tag c = sym (ap (all may_return) (params-end _ _ (sym c.tag.ensures ∙ c.if-tag.true)) ∙ return-none) ∙ c.loop-at.invariant

pub returns-then-same : goal.returns-then-same
returns-then-same c = sym (ap (all may_return) (params-first _ _ (λ e. c.if-tag.false (c.tag.ensures ∙ e)) c.text_at-k.ensures) ∙ return-value _ _ _ (sym c.same.ensures ∙ c.if-same.true)) ∙ c.loop-at.invariant

pub returns-then-not-all_text : goal.returns-then-not-all_text
returns-then-not-all_text c = sym (ap (all may_return) (params-first _ _ (λ e. c.if-tag.false (c.tag.ensures ∙ e)) c.text_at-k.ensures) ∙ return-off _ _ _ (sym c.same.ensures ∙ c.if-same.false) (ap (all (all text_octet)) (value-one _ _ (sym c.tag-in-loop-at.ensures ∙ c.if-tag-eq-STRING.true) c.text_at-x.ensures) ∙ texts-one _ ∙ sym c.all_text.ensures ∙ c.if-not-all_text.true)) ∙ c.loop-at.invariant

pub loop-at-smaller-then-tag-eq-STRING : goal.loop-at-smaller-then-tag-eq-STRING
loop-at-smaller-then-tag-eq-STRING c = let k = c.text_at-k.ensures.behind in
    omega (arith, k.more (λ e. c.if-tag.false (c.tag.ensures ∙ e)), c.text_at-x.ensures.behind.low k.high, c.text_at-x.ensures.behind.high)

pub loop-at-preserved-then-tag-eq-STRING : goal.loop-at-preserved-then-tag-eq-STRING
loop-at-preserved-then-tag-eq-STRING c = sym (ap (all may_return) (params-next _ _ (λ e. c.if-tag.false (c.tag.ensures ∙ e)) c.text_at-k.ensures c.text_at-x.ensures.behind) ∙ return-on _ _ _ (sym c.same.ensures ∙ c.if-same.false) (ap (all (all text_octet)) (value-one _ _ (sym c.tag-in-loop-at.ensures ∙ c.if-tag-eq-STRING.true) c.text_at-x.ensures) ∙ texts-one _ ∙ sym c.all_text.ensures ∙ c.if-not-all_text.false)) ∙ c.loop-at.invariant

pub are_texts-requires : goal.are_texts-requires
are_texts-requires c = λ e. c.if-tag-eq-STRING.false (c.tag-in-loop-at.ensures ∙ e)

pub returns-then-not-are_texts : goal.returns-then-not-are_texts
returns-then-not-are_texts c = sym (ap (all may_return) (params-first _ _ (λ e. c.if-tag.false (c.tag.ensures ∙ e)) c.text_at-k.ensures) ∙ return-off _ _ _ (sym c.same.ensures ∙ c.if-same.false) (sym c.are_texts.ensures ∙ c.if-not-are_texts.true)) ∙ c.loop-at.invariant

pub loop-at-smaller : goal.loop-at-smaller
loop-at-smaller c = let k = c.text_at-k.ensures.behind in
    omega (arith, k.more (λ e. c.if-tag.false (c.tag.ensures ∙ e)), c.behind-i.ensures.low k.high, c.behind-i.ensures.high)

pub loop-at-preserved : goal.loop-at-preserved
loop-at-preserved c = sym (ap (all may_return) (params-next _ _ (λ e. c.if-tag.false (c.tag.ensures ∙ e)) c.text_at-k.ensures c.behind-i.ensures) ∙ return-on _ _ _ (sym c.same.ensures ∙ c.if-same.false) (sym c.are_texts.ensures ∙ c.if-not-are_texts.false)) ∙ c.loop-at.invariant
