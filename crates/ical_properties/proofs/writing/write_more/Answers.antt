-- `ical_properties::writing::write_more` meets its contract.
use mathlib.Core.Path.{refl, sym, ap, ◌∙◌}
use native.Mathlib.Omega.{arith}
use Rattle.content.specs.Write.{more_values}
use Rattle.content.proofs.Folding.{leads-start, leads-on, leads-end}
use Rattle.ical_properties.proofs.Parameters.{texts-end, texts-next, more-none, more-next}
use Rattle.ical_properties.proofs.writing.write_more.Goals as goal

pub loop-q-init : goal.loop-q-init
loop-q-init c = (refl, leads-start)

pub returns-then-tag : goal.returns-then-tag
returns-then-tag c = leads-end c.loop-q.invariant.1 (ap more_values (texts-end _ _ (sym c.tag.ensures ∙ c.if-tag.true)) ∙ more-none)

pub loop-q-smaller : goal.loop-q-smaller
loop-q-smaller c = omega (arith, c.text_at-x.ensures.behind.more (λ e. c.if-tag.false (c.tag.ensures ∙ e)), c.text_at-x.ensures.behind.high)

pub loop-q-preserved : goal.loop-q-preserved
loop-q-preserved c = (omega arith, leads-on c.loop-q.invariant.1 c.next_param_value-q.ensures (ap more_values (texts-next _ _ (λ e. c.if-tag.false (c.tag.ensures ∙ e)) c.text_at-x.ensures) ∙ more-next _ _))
