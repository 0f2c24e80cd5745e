-- `ical_skeleton::parameters::check_strings` meets its contract.
use mathlib.Core.Path.{sym, ◌∙◌}
use native.Mathlib.Omega.{arith}
use Rattle.conversion_theory.specs.Skeleton.{is_json_string}
use Rattle.ical_skeleton.proofs.Lists.{list-not, passing-start, passing-next, passing-off, passing-end}
use Rattle.ical_skeleton.proofs.Names.{string-is, string-not}
use Rattle.ical_skeleton.proofs.parameters.check_strings.Goals as goal

pub returns-then-tag-ne-ARRAY : goal.returns-then-tag-ne-ARRAY
returns-then-tag-ne-ARRAY c = list-not is_json_string _ _ (λ e. c.if-tag-ne-ARRAY.true (c.tag.ensures ∙ e))

pub loop-at-init : goal.loop-at-init
loop-at-init c = passing-start is_json_string c.after-i.ensures

pub returns-then-b : goal.returns-then-b
returns-then-b c = passing-end c.loop-at.invariant c.after-i.ensures (sym c.tag.ensures ∙ c.if-tag-ne-ARRAY.false) (sym c.tag-b.ensures ∙ c.if-b.true) c.after.ensures

pub returns-then-b-ne-STRING : goal.returns-then-b-ne-STRING
returns-then-b-ne-STRING c = passing-off c.loop-at.invariant c.after-i.ensures (sym c.tag.ensures ∙ c.if-tag-ne-ARRAY.false) (λ e. c.if-b.false (c.tag-b.ensures ∙ e)) (string-not _ _ (λ e. c.if-b-ne-STRING.true (c.tag-b.ensures ∙ e)))

pub loop-at-smaller : goal.loop-at-smaller
loop-at-smaller c = omega (arith, c.behind-i.ensures.more (λ e. c.if-b.false (c.tag-b.ensures ∙ e)), c.behind-i.ensures.high)

pub loop-at-preserved : goal.loop-at-preserved
loop-at-preserved c = passing-next c.loop-at.invariant c.behind-i.ensures (λ e. c.if-b.false (c.tag-b.ensures ∙ e)) (string-is _ _ (sym c.tag-b.ensures ∙ c.if-b-ne-STRING.false))
