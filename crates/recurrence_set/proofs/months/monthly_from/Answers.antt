-- `recurrence_set::months::monthly_from` meets its contract.
use Rattle.recurrence_set.proofs.MonthSearch.{none_first, never-before, day-in, month-in, from-here, from_next}
use Rattle.recurrence_set.proofs.Places.{never-past}
use Rattle.recurrence_set.proofs.Every.{left_over}
use Rattle.octets.specs.Optional.{said}
use mathlib.Core.Path.{sym, ap, ◌∙◌}
use native.Mathlib.Omega.{arith}
use Rattle.recurrence_set.proofs.months.monthly_from.Goals as goal

pub returns-then-names_none : goal.returns-then-names_none
returns-then-names_none c = λ q h. none_first _ _ (sym c.names_none.ensures ∙ c.if-names_none.true) _ _ c.requires q

pub returns-in_err-d : goal.returns-in_err-d
returns-in_err-d c = rw c.from_residual.ensures (λ q h. never-past _ (ap said (sym c.in_err-d.was) ∙ c.from_day_number.ensures) (omega (arith, q, c.requires)))

pub returns-then-month-begin : goal.returns-then-month-begin
returns-then-month-begin c = λ q h. never-before _ _ (ap said (sym c.in_ok-d.was) ∙ c.from_day_number.ensures) c.args.stepped.rule _ c.args.places _ _ c.args.stepped.steps c.month_number-month.ensures c.month_number-begin.ensures h c.if-month-begin.true

pub overflow_sub-d : goal.overflow_sub-d
overflow_sub-d c = (day-in _ _ (ap said (sym c.in_ok-d.was) ∙ c.from_day_number.ensures)).0

pub months_from-requires : goal.months_from-requires
months_from-requires c = (let w = (day-in c.args.from c.in_ok-d.d (ap said (sym c.in_ok-d.was) ∙ c.from_day_number.ensures)).1 in omega arith)

pub returns-then-out-eq0 : goal.returns-then-out-eq0
returns-then-out-eq0 c = λ q h. from-here _ _ (ap said (sym c.in_ok-d.was) ∙ c.from_day_number.ensures) _ _ _ _ _ c.args.stepped.steps c.month_number-month.ensures c.month_number-begin.ensures h _ c.if-out-eq0.true (c.months_from.ensures q)

pub overflow_sub-interval : goal.overflow_sub-interval
overflow_sub-interval c = left_over _ _ c.args.stepped.steps

pub overflow_add-month : goal.overflow_add-month
overflow_add-month c = let w = month-in c.args.from c.in_ok-d.d (ap said (sym c.in_ok-d.was) ∙ c.from_day_number.ensures) in let m = c.month_number-month.ensures in omega arith

pub returns : goal.returns
returns c = λ q h. from_next _ _ (ap said (sym c.in_ok-d.was) ∙ c.from_day_number.ensures) _ _ _ _ _ c.args.stepped.steps c.month_number-month.ensures c.month_number-begin.ensures h _ c.if-out-eq0.false q (c.months_from-2.ensures q)
