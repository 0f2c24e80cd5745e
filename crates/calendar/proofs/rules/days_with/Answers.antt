-- `calendar::rules::days_with` meets its contract.
use mathlib.Core.Path.{◌∙◌}
use lib.Dec.{eqb}
use Rattle.std.proofs.Common.{rules, tests}
use Rattle.std.proofs.lemmas.Iterator.Consumers.{fold_from_yields_List}
use Rattle.std.proofs.lemmas.Iterator.Splits.{YieldsList-from_slice_split}
use Rattle.calendar.specs.Rules.{with_day, with_month_day}
use Rattle.calendar.specs.declared.parts.Key.TheVariants.{ByDay, ByMonthDay}
use Rattle.calendar.proofs.Gathering.{gathered-fold}
use Rattle.calendar.proofs.Keys.{keys_apart}
use Rattle.calendar.proofs.rules.days_with.Goals as goal

pub returns-then-not-gather : goal.returns-then-not-gather
returns-then-not-gather c = rw c.if-not-gather.true

pub returns-in-ByDay : goal.returns-in-ByDay
returns-in-ByDay c =
    rw (c.if-not-gather.false, c.in-ByDay.is)
    (fold_from_yields_List _ with_day c.args.days c.fold.result c.fold.ensures.ran (YieldsList-from_slice_split _ (λ x. eqb x 44) c.args.v.now (cc) (cc) (cc) (λ x b q k. search (rules, tests))) (λ a x b q k. search rules) ∙ gathered-fold with_day c.args.days c.args.v.now)

pub returns-in-ByMonthDay : goal.returns-in-ByMonthDay
returns-in-ByMonthDay c =
    rw (c.if-not-gather.false, c.in-ByMonthDay.is)
    (fold_from_yields_List _ with_month_day c.args.days c.fold-in-ByMonthDay.result c.fold-in-ByMonthDay.ensures.ran (YieldsList-from_slice_split _ (λ x. eqb x 44) c.args.v.now (cc) (cc) (cc) (λ x b q k. search (rules, tests))) (λ a x b q k. search rules) ∙ gathered-fold with_month_day c.args.days c.args.v.now)

pub returns-in_default : goal.returns-in_default
returns-in_default c = rw (c.if-not-gather.false, keys_apart c.args.key ByDay c.in_default.not-ByDay, keys_apart c.args.key ByMonthDay c.in_default.not-ByMonthDay)
