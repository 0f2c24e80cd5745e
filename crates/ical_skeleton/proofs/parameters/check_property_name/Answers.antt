-- `ical_skeleton::parameters::check_property_name` meets its contract.
use mathlib.Core.Path.{sym, ap, ◌∙◌}
use mathlib.Core.Bool.{not}
use Rattle.ical_skeleton.proofs.Names.{held-not, held-text, no_name, named-begin, named_other}
use Rattle.conversion_theory.specs.Skeleton.{is_property_name}
use Rattle.ical_skeleton.proofs.parameters.check_property_name.Goals as goal
use Rattle.ical_skeleton.proofs.parameters.check_property_name.Goals.{then-not-is_lower_name-via-then-not-is_lower_name, then-not-is_lower_name-via-else-not-is_lower_name+then-same, then-not-is_lower_name-via-else-not-is_lower_name+else-same+then-same-2}

pub returns-then-tag-ne-STRING : goal.returns-then-tag-ne-STRING
returns-then-tag-ne-STRING c = held-not _ _ is_property_name (λ e. c.if-tag-ne-STRING.true (c.tag.ensures ∙ e))

pub returns-then-not-is_lower_name : goal.returns-then-not-is_lower_name
returns-then-not-is_lower_name c = held-text _ _ is_property_name (sym c.tag.ensures ∙ c.if-tag-ne-STRING.false) c.text_at-x.ensures ∙ elim c.then-not-is_lower_name.branch [
  | then-not-is_lower_name-via-then-not-is_lower_name w ↦ no_name _ (sym c.is_lower_name.ensures ∙ w.if-not-is_lower_name.true)
  | then-not-is_lower_name-via-else-not-is_lower_name+then-same w ↦ named-begin _ (sym c.is_lower_name.ensures ∙ w.if-not-is_lower_name.false) (sym w.same.ensures ∙ w.if-same.true)
  | then-not-is_lower_name-via-else-not-is_lower_name+else-same+then-same-2 w ↦ named_other _ (sym c.is_lower_name.ensures ∙ w.if-not-is_lower_name.false) (sym w.same.ensures ∙ w.if-same.false) ∙ ap not (sym w.same-else-same.ensures ∙ w.if-same-2.true)
]

pub returns : goal.returns
returns c = (held-text _ _ is_property_name (sym c.tag.ensures ∙ c.if-tag-ne-STRING.false) c.text_at-x.ensures ∙ named_other _ (sym c.is_lower_name.ensures ∙ c.if-not-is_lower_name.false) (sym c.same.ensures ∙ c.if-same.false) ∙ ap not (sym c.same-else-same.ensures ∙ c.if-same-2.false), c.text_at-x.ensures.behind)
