-- `calendar::rules::may_follow` meets its contract.
use mathlib.Core.Bool.{not}
use mathlib.Core.Path.{sym, ap, ◌∙◌}
use Rattle.calendar.specs.Recurrence.{PartSort}
use Rattle.calendar.specs.Reading.{values_stand}
use Rattle.calendar.proofs.Keys.{key-small}
use Rattle.calendar.proofs.RuleLoop.{follow-barred, follow-free}
use Rattle.calendar.proofs.rules.may_follow.Goals as goal

pub returns-then-not-is_barred : goal.returns-then-not-is_barred
returns-then-not-is_barred c = c.values_stand.ensures ∙ ap (λ (k : PartSort). values_stand k c.args.v.now) c.sort_of.ensures ∙ follow-free _ _ _ (key-small c.args.key) (sym c.is_barred.ensures ∙ c.if-not-is_barred.true)

pub returns-else-not-is_barred : goal.returns-else-not-is_barred
returns-else-not-is_barred c = ap not c.if-not-is_barred.false ∙ follow-barred _ _ _ (key-small c.args.key) (sym c.is_barred.ensures ∙ c.if-not-is_barred.false)
