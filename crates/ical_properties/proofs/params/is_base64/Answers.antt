-- `ical_properties::params::is_base64` meets its contract.
use mathlib.Core.Path.{sym, ap, ◌∙◌}
use Rattle.content.specs.Parameters.{is_base64}
use Rattle.ical_properties.proofs.PropertyPlaces.{array-in}
use Rattle.ical_properties.proofs.Parameters.{value-one, values-of, texts-end, base64-one, base64-none, base64-alone, base64-several}
use Rattle.ical_properties.proofs.params.is_base64.Goals as goal

pub returns-then-tag-eq-STRING : goal.returns-then-tag-eq-STRING
returns-then-tag-eq-STRING c = c.same_name.ensures ∙ sym (ap is_base64 (value-one _ _ (sym c.tag.ensures ∙ c.if-tag-eq-STRING.true) c.text_at-x.ensures) ∙ base64-one _)

pub returns-then-tag : goal.returns-then-tag
returns-then-tag c = sym (ap is_base64 (values-of _ _ (λ e. c.if-tag-eq-STRING.false (c.tag.ensures ∙ e)) (array-in c.into-a.ensures) ∙ texts-end _ _ (sym c.tag-2.ensures ∙ c.if-tag.true)) ∙ base64-none)

pub returns-then-tag-2 : goal.returns-then-tag-2
returns-then-tag-2 c = sym (ap is_base64 (values-of _ _ (λ e. c.if-tag-eq-STRING.false (c.tag.ensures ∙ e)) (array-in c.into-a.ensures)) ∙ base64-several (λ e. c.if-tag.false (c.tag-2.ensures ∙ e)) c.text_at-x-2.ensures (λ e. c.if-tag-2.true (c.tag-3.ensures ∙ e)))

pub returns : goal.returns
returns c = c.same_name-2.ensures ∙ sym (ap is_base64 (values-of _ _ (λ e. c.if-tag-eq-STRING.false (c.tag.ensures ∙ e)) (array-in c.into-a.ensures)) ∙ base64-alone (λ e. c.if-tag.false (c.tag-2.ensures ∙ e)) c.text_at-x-2.ensures (sym c.tag-3.ensures ∙ c.if-tag-2.false))
