-- `ical_properties::params::any_encodes` meets its contract.
use mathlib.Core.Path.{refl, sym, ap, ◌∙◌}
use native.Mathlib.Omega.{arith}
use Rattle.content.specs.Parameters.{is_encoded}
use Rattle.ical_properties.proofs.Parameters.{params-end, params-first, params-next, encoded-none, encoded-here, encoded-on}
use Rattle.ical_properties.proofs.params.any_encodes.Goals as goal

pub loop-at-init : goal.loop-at-init
loop-at-init c = refl

pub returns-then-tag : goal.returns-then-tag
returns-then-tag c = sym (ap is_encoded (params-end _ _ (sym c.tag.ensures ∙ c.if-tag.true)) ∙ encoded-none) ∙ c.loop-at.invariant

pub returns-then-encodes : goal.returns-then-encodes
returns-then-encodes c = sym (ap is_encoded (params-first _ _ (λ e. c.if-tag.false (c.tag.ensures ∙ e)) c.text_at-k.ensures) ∙ encoded-here _ _ _ (sym c.encodes.ensures ∙ c.if-encodes.true)) ∙ c.loop-at.invariant

pub loop-at-smaller : goal.loop-at-smaller
loop-at-smaller c = let k = c.text_at-k.ensures.behind in
    omega (arith, k.more (λ e. c.if-tag.false (c.tag.ensures ∙ e)), c.behind-i.ensures.low k.high, c.behind-i.ensures.high)

pub loop-at-preserved : goal.loop-at-preserved
loop-at-preserved c = sym (ap is_encoded (params-next _ _ (λ e. c.if-tag.false (c.tag.ensures ∙ e)) c.text_at-k.ensures c.behind-i.ensures) ∙ encoded-on _ _ _ (sym c.encodes.ensures ∙ c.if-encodes.false)) ∙ c.loop-at.invariant
