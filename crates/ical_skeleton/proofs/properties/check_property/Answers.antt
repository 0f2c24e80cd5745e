-- `ical_skeleton::properties::check_property` meets its contract.
use mathlib.Core.Path.{sym, ◌∙◌}
use Rattle.ical_skeleton.proofs.Parts.{property-not, property-no-name, property-no-parameters, property-no-type, property-no-value, property-whole}
use Rattle.ical_skeleton.proofs.properties.check_property.Goals as goal

pub returns-then-tag-ne-ARRAY : goal.returns-then-tag-ne-ARRAY
returns-then-tag-ne-ARRAY c = property-not _ _ (λ e. c.if-tag-ne-ARRAY.true (c.tag.ensures ∙ e))

pub returns-in_err-b : goal.returns-in_err-b
returns-in_err-b c = rw c.from_residual.ensures (property-no-name c.after-a.ensures (sym c.tag.ensures ∙ c.if-tag-ne-ARRAY.false) c.in_err-b.ensures)

pub returns-in_err-c : goal.returns-in_err-c
returns-in_err-c c = let n = c.in_ok-b.ensures in
    rw c.from_residual-in_err-c.ensures (property-no-parameters c.after-a.ensures (sym c.tag.ensures ∙ c.if-tag-ne-ARRAY.false) n.1 n.0 c.in_err-c.ensures)

pub returns-in_err-d : goal.returns-in_err-d
returns-in_err-d c = let n = c.in_ok-b.ensures in
    let p = c.in_ok-c.ensures in
    rw c.from_residual-in_err-d.ensures (property-no-type c.after-a.ensures (sym c.tag.ensures ∙ c.if-tag-ne-ARRAY.false) n.1 n.0 p.1 p.0 c.in_err-d.ensures)

pub returns-then-tag : goal.returns-then-tag
returns-then-tag c = let n = c.in_ok-b.ensures in
    let p = c.in_ok-c.ensures in
    let k = c.in_ok-d.ensures in
    property-no-value c.after-a.ensures (sym c.tag.ensures ∙ c.if-tag-ne-ARRAY.false) n.1 n.0 p.1 p.0 k.1 k.0 (sym c.tag-2.ensures ∙ c.if-tag.true)

pub returns : goal.returns
returns c = let n = c.in_ok-b.ensures in
    let p = c.in_ok-c.ensures in
    let k = c.in_ok-d.ensures in
    property-whole c.after-a.ensures (sym c.tag.ensures ∙ c.if-tag-ne-ARRAY.false) n.1 n.0 p.1 p.0 k.1 k.0 (λ e. c.if-tag.false (c.tag-2.ensures ∙ e)) c.leave.ensures
