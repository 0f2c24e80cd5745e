-- `ical_skeleton::components::check_head` meets its contract.
use mathlib.Core.Path.{sym, ◌∙◌}
use Rattle.ical_skeleton.proofs.Parts.{component-not, component-no-name, heads}
use Rattle.ical_skeleton.proofs.components.check_head.Goals as goal

pub returns-then-tag-ne-ARRAY : goal.returns-then-tag-ne-ARRAY
returns-then-tag-ne-ARRAY c = component-not _ _ (λ e. c.if-tag-ne-ARRAY.true (c.tag.ensures ∙ e))

pub returns-in_err-b : goal.returns-in_err-b
returns-in_err-b c = rw c.from_residual.ensures (component-no-name c.after-a.ensures (sym c.tag.ensures ∙ c.if-tag-ne-ARRAY.false) c.in_err-b.ensures)

pub returns : goal.returns
returns c = let n = c.in_ok-b.ensures in
    heads c.after-a.ensures (sym c.tag.ensures ∙ c.if-tag-ne-ARRAY.false) n.1 n.0 c.check_properties.result c.check_properties.ensures
