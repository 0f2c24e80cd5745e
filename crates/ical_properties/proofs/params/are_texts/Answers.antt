-- `ical_properties::params::are_texts` meets its contract.
use mathlib.Core.Path.{refl, sym, ap, ◌∙◌}
use native.Mathlib.Omega.{arith}
use Rattle.octets.specs.Basics.{all}
use Rattle.octets.specs.Classes.{text_octet}
use Rattle.ical_properties.proofs.PropertyPlaces.{array-in}
use Rattle.ical_properties.proofs.Parameters.{values-of, texts-end, texts-next, texts-on, texts-off, texts-none}
use Rattle.ical_properties.proofs.params.are_texts.Goals as goal

pub loop-at-init : goal.loop-at-init
loop-at-init c = refl

pub returns-then-tag : goal.returns-then-tag
returns-then-tag c = sym (ap (all (all text_octet)) (values-of _ _ c.requires (array-in c.into-i.ensures)) ∙ sym c.loop-at.invariant ∙ ap (all (all text_octet)) (texts-end _ _ (sym c.tag.ensures ∙ c.if-tag.true)) ∙ texts-none)

pub returns-then-not-all_text : goal.returns-then-not-all_text
returns-then-not-all_text c = sym (ap (all (all text_octet)) (values-of _ _ c.requires (array-in c.into-i.ensures)) ∙ sym c.loop-at.invariant ∙ ap (all (all text_octet)) (texts-next _ _ (λ e. c.if-tag.false (c.tag.ensures ∙ e)) c.text_at-x.ensures) ∙ texts-off _ _ (sym c.all_text.ensures ∙ c.if-not-all_text.true))

pub loop-at-smaller : goal.loop-at-smaller
loop-at-smaller c = omega (arith, c.text_at-x.ensures.behind.more (λ e. c.if-tag.false (c.tag.ensures ∙ e)), c.text_at-x.ensures.behind.high)

pub loop-at-preserved : goal.loop-at-preserved
loop-at-preserved c = sym (ap (all (all text_octet)) (texts-next _ _ (λ e. c.if-tag.false (c.tag.ensures ∙ e)) c.text_at-x.ensures) ∙ texts-on _ _ (sym c.all_text.ensures ∙ c.if-not-all_text.false)) ∙ c.loop-at.invariant
