-- `content::twice::twice_few` meets its contract: those behind a parameter are tested first, then its name. The measure is `few`.
use mathlib.Core.Path.{sym, ◌∙◌}
use Rattle.content.proofs.ParamPlaces.{never-twice, twice-behind, twice-first}
use Rattle.content.proofs.twice.+twice_few.Goals as goal

pub returns-in_default : goal.returns-in_default
returns-in_default t c = sym (never-twice _ c.in_default.ensures)

pub returns-then-twice_few : goal.returns-then-twice_few
returns-then-twice_few t c = sym (twice-behind _ _ _ _ c.in-Some.ensures.1 (sym c.twice_few.ensures ∙ c.if-twice_few.true))

pub returns : goal.returns
returns t c = c.has_name.ensures ∙ sym (twice-first _ _ _ _ c.in-Some.ensures.1 (sym c.twice_few.ensures ∙ c.if-twice_few.false))
