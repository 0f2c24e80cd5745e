-- `ical_values::tested::write_values` meets its contract.
use Rattle.ical_values.proofs.PropertyValues.{as-valued, geo-valued, status-valued}
use Rattle.ical_values.proofs.ValueGroups.{left_here, taken_none, joined-none}
use Rattle.ical_values.proofs.Sorts.{simple-left}
use Rattle.ical_values.specs.Valued.{all_taken}
use Rattle.ical_values.specs.Parts.{simple}
use Rattle.octets.proofs.Pen.{front_same}
use Rattle.content.proofs.Folding.{none, as-folded}
use Rattle.values.specs.Write.{values_are, values_text}
use Rattle.values.specs.Coded.{sort_said}
use mathlib.Core.Path.{refl, sym, ◌∙◌}
use Rattle.ical_values.proofs.tested.write_values.Goals as goal

pub write_parts-requires : goal.write_parts-requires
write_parts-requires c = unfold sort_said simple in refl

pub write_parts-requires-in-Status : goal.write_parts-requires-in-Status
write_parts-requires-in-Status c = unfold sort_said simple in refl

pub write_some-requires : goal.write_some-requires
write_some-requires c = (λ z. c.if-tag.true (c.tag.ensures ∙ z), simple-left _ c.in_default.not-Geo c.in_default.not-Status c.requires)

pub returns-then-tag : goal.returns-then-tag
returns-then-tag c = as-valued _ _ _ _ _ _ _ c.write_some.result c.may_be_several-several.ensures c.write_some.ensures

pub returns-then-several : goal.returns-then-several
unfolding values_are values_text all_taken
returns-then-several c = let z = sym c.tag.ensures ∙ c.if-tag.false in
    (taken_none _ _ _ _ z ∙ sym c.may_be_several-several.ensures ∙ c.if-several.true, as-folded none (joined-none _ _ _ _ z), left_here z c.after.ensures)

pub returns-in-Geo : goal.returns-in-Geo
unfolding sort_said
returns-in-Geo c = rw c.in-Geo.is (geo-valued _ _ _ _ _ c.write_parts.result c.write_parts.ensures)

pub returns-in-Status : goal.returns-in-Status
unfolding sort_said
returns-in-Status c = rw c.in-Status.is (status-valued _ _ _ _ _ c.write_parts-in-Status.result c.write_parts-in-Status.ensures)

pub returns-else-several : goal.returns-else-several
unfolding values_are all_taken
returns-else-several c = (taken_none _ _ _ _ (sym c.tag.ensures ∙ c.if-tag.false) ∙ sym c.may_be_several-several.ensures ∙ c.if-several.false, front_same)
