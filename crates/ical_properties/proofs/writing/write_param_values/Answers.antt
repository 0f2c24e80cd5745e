-- `ical_properties::writing::write_param_values` meets its contract.
use mathlib.Core.Path.{sym, ap, ◌∙◌}
use Rattle.content.proofs.Folding.{none, then, as-folded}
use Rattle.ical_properties.specs.ParamValues.{param_values_text}
use Rattle.ical_properties.proofs.PropertyPlaces.{array-in}
use Rattle.ical_properties.proofs.Parameters.{values-of, texts-end, texts-next, values-none, values-more}
use Rattle.ical_properties.proofs.writing.write_param_values.Goals as goal

pub returns-then-tag : goal.returns-then-tag
returns-then-tag c = as-folded none (sym (ap param_values_text (values-of _ _ c.requires (array-in c.into-a.ensures) ∙ texts-end _ _ (sym c.tag.ensures ∙ c.if-tag.true)) ∙ values-none))

pub returns : goal.returns
returns c = as-folded (then c.write_param_value-q.ensures c.write_more.ensures) (sym (ap param_values_text (values-of _ _ c.requires (array-in c.into-a.ensures) ∙ texts-next _ _ (λ e. c.if-tag.false (c.tag.ensures ∙ e)) c.text_at-x.ensures) ∙ values-more _ _))
