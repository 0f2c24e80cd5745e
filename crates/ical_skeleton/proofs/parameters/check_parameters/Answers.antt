-- `ical_skeleton::parameters::check_parameters` meets its contract.
use mathlib.Core.Path.{sym, ◌∙◌}
use native.Mathlib.Omega.{arith}
use Rattle.ical_skeleton.proofs.Names.{object-not, naming-start, naming-end, naming-unnamed, naming-off, naming-next}
use Rattle.ical_skeleton.proofs.parameters.check_parameters.Goals as goal

pub returns-then-tag-ne-OBJECT : goal.returns-then-tag-ne-OBJECT
returns-then-tag-ne-OBJECT c = object-not _ _ (λ e. c.if-tag-ne-OBJECT.true (c.tag.ensures ∙ e))

pub loop-at-init : goal.loop-at-init
loop-at-init c = naming-start c.after-i.ensures

pub returns-then-tag : goal.returns-then-tag
returns-then-tag c = naming-end c.loop-at.invariant c.after-i.ensures (sym c.tag.ensures ∙ c.if-tag-ne-OBJECT.false) (sym c.tag-in-loop-at.ensures ∙ c.if-tag.true) c.after.ensures

pub returns-then-not-is_lower_name : goal.returns-then-not-is_lower_name
returns-then-not-is_lower_name c = naming-unnamed c.loop-at.invariant c.after-i.ensures (sym c.tag.ensures ∙ c.if-tag-ne-OBJECT.false) (λ e. c.if-tag.false (c.tag-in-loop-at.ensures ∙ e)) c.text_at-k.ensures (sym c.is_lower_name.ensures ∙ c.if-not-is_lower_name.true)

pub loop-at-smaller : goal.loop-at-smaller
loop-at-smaller c = let y = c.in_ok-i.ensures.1 in
    let k = c.text_at-k.ensures.behind in
    omega (arith, k.more (λ e. c.if-tag.false (c.tag-in-loop-at.ensures ∙ e)), y.low k.high, y.high)

pub loop-at-preserved : goal.loop-at-preserved
loop-at-preserved c = let y = c.in_ok-i.ensures in
    naming-next c.loop-at.invariant (λ e. c.if-tag.false (c.tag-in-loop-at.ensures ∙ e)) c.text_at-k.ensures (sym c.is_lower_name.ensures ∙ c.if-not-is_lower_name.false) y.0 y.1

pub returns-in_err-i : goal.returns-in_err-i
returns-in_err-i c = rw c.from_residual.ensures (naming-off c.loop-at.invariant c.after-i.ensures (sym c.tag.ensures ∙ c.if-tag-ne-OBJECT.false) (λ e. c.if-tag.false (c.tag-in-loop-at.ensures ∙ e)) c.text_at-k.ensures (sym c.is_lower_name.ensures ∙ c.if-not-is_lower_name.false) c.in_err-i.ensures)
