-- `ical_skeleton::properties::check_properties` meets its contract.
use mathlib.Core.Path.{sym, ◌∙◌}
use native.Mathlib.Omega.{arith}
use Rattle.conversion_theory.specs.Skeleton.{is_property}
use Rattle.ical_skeleton.proofs.Lists.{list-not, passing-start, passing-next, passing-off, passing-end}
use Rattle.ical_skeleton.proofs.properties.check_properties.Goals as goal

pub returns-then-tag-ne-ARRAY : goal.returns-then-tag-ne-ARRAY
returns-then-tag-ne-ARRAY c = list-not is_property _ _ (λ e. c.if-tag-ne-ARRAY.true (c.tag.ensures ∙ e))

pub loop-at-init : goal.loop-at-init
loop-at-init c = passing-start is_property c.after-i.ensures

pub returns-then-tag : goal.returns-then-tag
returns-then-tag c = passing-end c.loop-at.invariant c.after-i.ensures (sym c.tag.ensures ∙ c.if-tag-ne-ARRAY.false) (sym c.tag-in-loop-at.ensures ∙ c.if-tag.true) c.after.ensures

pub loop-at-smaller : goal.loop-at-smaller
loop-at-smaller c = let y = c.in_ok-i.ensures.1 in
    omega (arith, y.more (λ e. c.if-tag.false (c.tag-in-loop-at.ensures ∙ e)), y.high)

pub loop-at-preserved : goal.loop-at-preserved
loop-at-preserved c = let y = c.in_ok-i.ensures in
    passing-next c.loop-at.invariant y.1 (λ e. c.if-tag.false (c.tag-in-loop-at.ensures ∙ e)) y.0

pub returns-in_err-i : goal.returns-in_err-i
returns-in_err-i c = rw c.from_residual.ensures (passing-off c.loop-at.invariant c.after-i.ensures (sym c.tag.ensures ∙ c.if-tag-ne-ARRAY.false) (λ e. c.if-tag.false (c.tag-in-loop-at.ensures ∙ e)) c.in_err-i.ensures)
