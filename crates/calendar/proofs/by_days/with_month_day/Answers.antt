-- `calendar::by_days::with_month_day` meets its contract: the n-th day of a month, or the n-th from its end.
use borrow.Author.Tests.{eq-eqb, ne_eqb}
use Rattle.calendar.proofs.Gathering.{month-day-low, month-day-high, month-day-last, month-day-nth}
use Rattle.calendar.proofs.by_days.with_month_day.Goals as goal

pub returns-then-n-lt1 : goal.returns-then-n-lt1
returns-then-n-lt1 c = month-day-low c.args.days c.args.s.now _ _ c.sign_length-from.ensures.1 c.value_of-n.ensures c.if-n-lt1.true

pub returns-then-n-gt31 : goal.returns-then-n-gt31
returns-then-n-gt31 c = month-day-high c.args.days c.args.s.now _ _ c.sign_length-from.ensures.1 c.value_of-n.ensures c.if-n-gt31.true

pub returns-then-back : goal.returns-then-back
returns-then-back c = month-day-last c.args.days c.args.s.now _ _ c.sign_length-from.ensures.1 c.value_of-n.ensures c.if-n-lt1.false c.if-n-gt31.false _ c.peek-back.ensures _ (eq-eqb _ _ c.if-back.true) c.added.ensures

pub returns : goal.returns
returns c = month-day-nth c.args.days c.args.s.now _ _ c.sign_length-from.ensures.1 c.value_of-n.ensures c.if-n-lt1.false c.if-n-gt31.false _ c.peek-back.ensures _ (ne_eqb _ _ c.if-back.false) c.added-2.ensures
