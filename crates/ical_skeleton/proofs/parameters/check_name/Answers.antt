-- `ical_skeleton::parameters::check_name` meets its contract.
use mathlib.Core.Path.{sym, ◌∙◌}
use Rattle.octets.specs.Classes.{is_lower_name}
use Rattle.ical_skeleton.proofs.Names.{held-not, held-text}
use Rattle.ical_skeleton.proofs.parameters.check_name.Goals as goal

pub returns-then-tag-ne-STRING : goal.returns-then-tag-ne-STRING
returns-then-tag-ne-STRING c = held-not _ _ is_lower_name (λ e. c.if-tag-ne-STRING.true (c.tag.ensures ∙ e))

pub returns-then-not-is_lower_name : goal.returns-then-not-is_lower_name
returns-then-not-is_lower_name c = held-text _ _ is_lower_name (sym c.tag.ensures ∙ c.if-tag-ne-STRING.false) c.text_at-x.ensures ∙ sym c.is_lower_name.ensures ∙ c.if-not-is_lower_name.true

pub returns : goal.returns
returns c = (held-text _ _ is_lower_name (sym c.tag.ensures ∙ c.if-tag-ne-STRING.false) c.text_at-x.ensures ∙ sym c.is_lower_name.ensures ∙ c.if-not-is_lower_name.false, c.text_at-x.ensures.behind)
