-- `calendar::by_days::with_day` meets its contract: a weekday alone, the n-th of a month, or the n-th from its end.
use native.Mathlib.Omega.{arith}
use borrow.Author.Tests.{le-leb, lt-leb, eq-eqb, ne_eqb}
use Rattle.calendar.proofs.Gathering.{place-small, day-every, day-nth, day-last}
use Rattle.calendar.proofs.by_days.with_day.Goals as goal
use Rattle.calendar.proofs.by_days.with_day.Goals.{then-n-le5, else-n-le5}

pub added-requires : goal.added-requires
added-requires c = omega (arith, c.weekday_place-w.ensures, place-small c.weekday_of.result)

pub returns-then-n-eq0 : goal.returns-then-n-eq0
returns-then-n-eq0 c = day-every c.args.days c.args.s.now _ _ _ c.day_from-at.ensures c.sign_length-from.ensures.1 c.value_of-n.ensures _ _ c.weekday_of.ensures c.weekday_place-w.ensures _ c.if-n-eq0.true c.added.ensures

pub overflow_add-w : goal.overflow_add-w
overflow_add-w c = omega (arith, c.weekday_place-w.ensures, place-small c.weekday_of.result, c.value_of-n.ensures)

pub added-requires-then-not-back : goal.added-requires-then-not-back
added-requires-then-not-back c = omega (arith, c.weekday_place-w.ensures, place-small c.weekday_of.result, c.value_of-n.ensures)

pub returns-then-not-back : goal.returns-then-not-back
returns-then-not-back c = day-nth c.args.days c.args.s.now _ _ _ c.day_from-at.ensures c.sign_length-from.ensures.1 c.value_of-n.ensures _ _ c.weekday_of.ensures c.weekday_place-w.ensures _ c.if-n-eq0.false _ c.peek-back.ensures (ne_eqb _ _ c.if-not-back.true) c.added-then-not-back.ensures

pub overflow_mul-week : goal.overflow_mul-week
overflow_mul-week c = elim c.if-n-le5.branch [ then-n-le5 w ↦ omega arith | else-n-le5 w ↦ omega arith ]

pub overflow_add-w-2 : goal.overflow_add-w-2
overflow_add-w-2 c = omega (arith, c.weekday_place-w.ensures, place-small c.weekday_of.result)

pub added-requires-2 : goal.added-requires-2
added-requires-2 c = omega (arith, c.weekday_place-w.ensures, place-small c.weekday_of.result)

pub returns : goal.returns
returns c = day-last c.args.days c.args.s.now _ _ _ c.day_from-at.ensures c.sign_length-from.ensures.1 c.value_of-n.ensures _ _ c.weekday_of.ensures c.weekday_place-w.ensures _ c.if-n-eq0.false _ c.peek-back.ensures _ (elim c.if-n-le5.branch [ then-n-le5 w ↦ rw (le-leb c.value_of-n.result 5 w.if-n-le5.true) w.week-is | else-n-le5 w ↦ rw (lt-leb c.value_of-n.result 5 w.if-n-le5.false) w.week-is ]) (eq-eqb _ _ c.if-not-back.false) c.added-2.ensures
