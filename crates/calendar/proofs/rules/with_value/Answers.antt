-- `calendar::rules::with_value` meets its contract: one field is new, or the end and the days are, or none is.
use mathlib.Core.Path.{◌≡◌, refl}
use mathlib.Core.Bool.{Bool, true, false}
use Rattle.octets.specs.Basics.{pick}
use Rattle.calendar.specs.Reading.{with_part}
use Rattle.calendar.specs.declared.by_days.ByDays.{ByDays}
use Rattle.calendar.specs.declared.parts.Key.TheVariants.{Freq, Interval, Wkst}
use Rattle.calendar.proofs.Keys.{keys_apart}
use Rattle.calendar.proofs.rules.with_value.Goals as goal

alike : (b : Bool) (days : ByDays) → pick b days days ≡ days
alike true days = refl
alike false days = refl

pub returns-in-Freq : goal.returns-in-Freq
returns-in-Freq c = unfold with_part in rw (c.in-Freq.is, c.frequency_of.ensures, alike c.args.gather _)

pub returns-in-Interval : goal.returns-in-Interval
returns-in-Interval c = unfold with_part in rw (c.in-Interval.is, c.count_of.ensures, alike c.args.gather _)

pub returns-in-Wkst : goal.returns-in-Wkst
returns-in-Wkst c = unfold with_part in rw (c.in-Wkst.is, c.weekday_of.ensures, alike c.args.gather _)

pub returns-in_default : goal.returns-in_default
unfolding with_part
returns-in_default c = let k = c.args.key in let n = c.in_default in
    rw (keys_apart k Freq n.not-Freq, keys_apart k Interval n.not-Interval, keys_apart k Wkst n.not-Wkst, c.end_with.ensures, c.days_with.ensures)
