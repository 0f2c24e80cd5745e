-- `stop_list::plans::make_plan` meets its contract: each reading's answer decides as in the definition.
use mathlib.Core.Path.{refl, sym, ap, ◌∙◌}
use Rattle.octets.specs.Optional.{said}
use Rattle.stop_list.proofs.PlanAnswers.{no_start, at-60, no-rule, not-served, is-planned}
use Rattle.stop_list.proofs.plans.make_plan.Goals as goal

pub returns-in_default : goal.returns-in_default
returns-in_default c = no_start _ _ _ (ap said (sym c.in_default.is) ∙ c.read_moment.ensures)

pub returns-then-m-eq60 : goal.returns-then-m-eq60
returns-then-m-eq60 c = at-60 _ _ _ _ (ap said (sym c.in-Some.is) ∙ c.read_moment.ensures) c.if-m-eq60.true

pub returns-in_default-read_rule : goal.returns-in_default-read_rule
returns-in_default-read_rule c = no-rule _ _ _ _ (ap said (sym c.in-Some.is) ∙ c.read_moment.ensures) c.if-m-eq60.false
    (ap said (sym c.in_default-read_rule.is) ∙ c.read_rule.ensures)

pub returns-then-not-is_served : goal.returns-then-not-is_served
returns-then-not-is_served c = not-served _ _ _ _ (ap said (sym c.in-Some.is) ∙ c.read_moment.ensures) c.if-m-eq60.false
    _ (ap said (sym c.in-Some-read_rule.is) ∙ c.read_rule.ensures) (sym c.is_served.ensures ∙ c.if-not-is_served.true)

pub returns : goal.returns
returns c = is-planned _ _ _ _ (ap said (sym c.in-Some.is) ∙ c.read_moment.ensures) c.if-m-eq60.false
    _ (ap said (sym c.in-Some-read_rule.is) ∙ c.read_rule.ensures) _ c.series_of-series.ensures
    (sym c.is_served.ensures ∙ c.if-not-is_served.false) _ refl refl c.room_of.ensures
