-- `ical_properties::places::into` meets its contract.
use mathlib.Core.Path.{refl, sym, ◌∙◌}
use Rattle.ical_properties.proofs.places.into.Goals as goal

pub returns-then-tag-group : goal.returns-then-tag-group
returns-then-tag-group c = record { there = λ e. c.after.ensures; elsewhere = λ n. absurd (n (sym c.tag.ensures ∙ c.if-tag-group.true)) }

pub returns-else-tag-group : goal.returns-else-tag-group
returns-else-tag-group c = record { there = λ e. absurd (c.if-tag-group.false (c.tag.ensures ∙ e)); elsewhere = λ n. refl }
