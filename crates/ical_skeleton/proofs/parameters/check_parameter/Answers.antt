-- `ical_skeleton::parameters::check_parameter` meets its contract.
use mathlib.Core.Path.{sym, ◌∙◌}
use Rattle.ical_skeleton.proofs.Names.{parameter-string, parameter-empty, parameter-array}
use Rattle.ical_skeleton.proofs.parameters.check_parameter.Goals as goal

pub returns-then-tag-eq-STRING : goal.returns-then-tag-eq-STRING
returns-then-tag-eq-STRING c = (parameter-string _ _ (sym c.tag.ensures ∙ c.if-tag-eq-STRING.true), c.behind.ensures)

pub returns-then-tag : goal.returns-then-tag
returns-then-tag c = parameter-empty _ _ (λ e. c.if-tag-eq-STRING.false (c.tag.ensures ∙ e)) c.after-a.ensures (sym c.tag-2.ensures ∙ c.if-tag.true)

pub returns : goal.returns
returns c = rw (parameter-array _ _ (λ e. c.if-tag-eq-STRING.false (c.tag.ensures ∙ e)) c.after-a.ensures (λ e. c.if-tag.false (c.tag-2.ensures ∙ e))) c.check_strings.ensures
