-- `recurrence_set::weeks::weekly_from` meets its contract.
use native.Mathlib.Omega.{arith}
use Rattle.recurrence_set.proofs.Due.{nothing-next}
use Rattle.recurrence_set.proofs.Every.{left_over}
use Rattle.recurrence_set.proofs.WeekSearch.{place_of, room-front, room_back, week-none, week-rest, week-skipped, week-done}
use Rattle.recurrence_set.proofs.weeks.weekly_from.Goals as goal
use Rattle.recurrence_set.proofs.weeks.weekly_from.Goals.{then-out-eq0+in_default, else-out-eq0}

pub week_set-set-requires : goal.week_set-set-requires
week_set-set-requires c = omega (arith, place_of _ _ c.weekday_place-w.ensures)

pub returns-in_err-first : goal.returns-in_err-first
returns-in_err-first c = rw c.from_residual.ensures
    (nothing-next _ _ _ c.args.places (omega arith) (week-none _ _ _ _ c.weekday_place-w.ensures c.week_set-set.ensures c.args.stepped.steps
    c.in_err-first.ensures _ _ (omega arith)))

pub overflow_sub-at : goal.overflow_sub-at
overflow_sub-at c = omega (arith, place_of _ _ c.weekday_place-w.ensures)

pub overflow_sub-out : goal.overflow_sub-out
overflow_sub-out c = omega (arith, place_of _ _ c.weekday_place-w.ensures)

pub returns-in-Some : goal.returns-in-Some
returns-in-Some c = week-rest _ _ _ _ c.weekday_place-w.ensures c.week_set-set.ensures
    c.args.stepped.steps _ _ c.requires.0
    c.if-out-eq0.true c.in-Some.ensures.1 _ c.in-Some.ensures.0

pub overflow_sub-result : goal.overflow_sub-result
overflow_sub-result c = left_over _ _ c.args.stepped.steps

pub overflow_sub-result-2 : goal.overflow_sub-result-2
overflow_sub-result-2 c = room-front _ _ _ _ _ _ c.weekday_place-w.ensures c.args.stepped.steps

pub overflow_sub-result-3 : goal.overflow_sub-result-3
overflow_sub-result-3 c = omega (arith, place_of _ _ c.weekday_place-w.ensures)

pub overflow_sub-result-4 : goal.overflow_sub-result-4
overflow_sub-result-4 c = room_back _ _ _ _ _ _ c.weekday_place-w.ensures c.args.stepped.steps

pub returns : goal.returns
returns c = elim c.if-out-eq0.branch [
  | then-out-eq0+in_default q ↦
      week-done _ _ _ _ c.weekday_place-w.ensures c.week_set-set.ensures
      c.args.stepped.steps _ _ c.requires.0
      q.in_default.ensures c.in_ok-first.ensures.1 _ c.in_ok-first.ensures.0
  | else-out-eq0 q ↦
      week-skipped _ _ _ _ c.weekday_place-w.ensures c.week_set-set.ensures
      c.args.stepped.steps _ _ c.requires.0
      q.if-out-eq0.false c.in_ok-first.ensures.1 _ c.in_ok-first.ensures.0
]
