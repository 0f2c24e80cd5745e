-- `calendar::items::is_ordinal` meets its contract.
use mathlib.Core.Path.{sym, ◌∙◌}
use native.Mathlib.Omega.{arith}
use Rattle.calendar.proofs.ItemTests.{day-wrong, day-bare, day-numbered}
use Rattle.calendar.proofs.items.is_ordinal.Goals as goal

pub returns-then-not-is_weekday : goal.returns-then-not-is_weekday
returns-then-not-is_weekday c = sym (day-wrong c.args.s.now c.day_from-at.result c.day_from-at.ensures (sym c.is_weekday.ensures ∙ c.if-not-is_weekday.true))

pub returns-then-at-eq0 : goal.returns-then-at-eq0
returns-then-at-eq0 c = sym (day-bare c.args.s.now c.day_from-at.result c.day_from-at.ensures (sym c.is_weekday.ensures ∙ c.if-not-is_weekday.false) c.if-at-eq0.true)

pub returns : goal.returns
returns c = c.is_number.ensures ∙ sym (day-numbered c.args.s.now c.day_from-at.result c.day_from-at.ensures (sym c.is_weekday.ensures ∙ c.if-not-is_weekday.false) c.if-at-eq0.false (omega (arith, c.day_from-at.ensures)))
