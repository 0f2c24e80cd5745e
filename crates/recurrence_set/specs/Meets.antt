-- Which moments meet a recurrence rule from a start on (RFC 5545 3.3.10; 01, The stop list; 02, [1] Weekly and monthly runs).
use Rattle.std.specs.Prelude.{ℕ, ◌+◌, ◌-◌, ◌*◌, ◌/◌, ◌%◌, Bool, true, false, List, map, eqb, take}
use Rattle.octets.specs.Basics.{pick, ◌and◌, ◌or◌}
use Rattle.calendar.specs.Gregorian.{month_days, day_number, day_count, date_at, month_number, weekday_at, week_at}
use Rattle.calendar.specs.Moments.{hour_number, at_hour, not_behind}
use Rattle.calendar.specs.Sets.{has}
use Rattle.calendar.specs.Rules.{weekday_place}
use Rattle.calendar.specs.declared.dates.Date.{Date}
use Rattle.calendar.specs.declared.by_days.ByDays.{ByDays}
use Rattle.calendar.specs.declared.moments.Moment.{Moment}
use Rattle.calendar.specs.declared.rules.Frequency.{Frequency}
use Rattle.calendar.specs.declared.rules.Frequency.TheVariants.{Secondly, Minutely, Hourly, Daily, Weekly, Monthly, Yearly}
use Rattle.calendar.specs.declared.rules.End.{End}
use Rattle.calendar.specs.declared.rules.End.TheVariants.{Count, Until, Open}
use Rattle.calendar.specs.declared.rules.Rule.{Rule}
use Rattle.recurrence_set.specs.Lists.{while, due}

-- Moments are counted in hours from the first day on for HOURLY, in days for all else: the place of a moment, how many places there are up to
-- 9999-12-31, and the moment at a place, which has all else of the start m.
unfoldable pub is_hourly : Frequency → Bool
is_hourly Secondly = false
is_hourly Minutely = false
is_hourly Hourly = true
is_hourly Daily = false
is_hourly Weekly = false
is_hourly Monthly = false
is_hourly Yearly = false

unfoldable pub place_of : Frequency → Moment → ℕ
place_of f m = pick (is_hourly f) (hour_number m) (day_number m.date)

unfoldable pub places_of : Frequency → ℕ
places_of f = pick (is_hourly f) (day_count * 24) day_count

unfoldable pub on_day : Moment → ℕ → Moment
on_day m n = record { date = date_at n; hour = m.hour; minute = m.minute; second = m.second; kind = m.kind }

unfoldable pub moment_at : Frequency → Moment → ℕ → Moment
moment_at f m n = pick (is_hourly f) (at_hour m n) (on_day m n)

-- INTERVAL: of hours, days, weeks or months, the k-th from the start's on counts
unfoldable pub counts : ℕ → ℕ → Bool
counts interval k = eqb (k % interval) 0

-- HOURLY and DAILY: the place n, counted from the start's place s
unfoldable pub every_meets : Rule → ℕ → ℕ → Bool
every_meets r s n = counts r.interval (n - s)

-- WEEKLY: the weekday w is one of BYDAY's; without BYDAY it is the start's, v
unfoldable pub weekday_serves : Rule → ℕ → ℕ → Bool
weekday_serves r v w = pick r.by.day (has r.days.weekdays w) (eqb w v)

-- the day n lies in a week that counts from that of the start's day s, weeks beginning on WKST, and its weekday serves
unfoldable pub weekly_meets : Rule → ℕ → ℕ → Bool
weekly_meets r s n =
    let w = weekday_place r.wkst in
    counts r.interval (week_at w n - week_at w s) and weekday_serves r (weekday_at s) (weekday_at n)

-- MONTHLY: the day d of a month of l days, a weekday w, is one of BYDAY's: each such weekday of the month, its n-th, or its n-th from the end
unfoldable pub ordinal_serves : ByDays → ℕ → ℕ → ℕ → Bool
ordinal_serves b l d w = has b.weekdays w or has b.ordinals (w + 7 * ((d - 1) / 7)) or has b.lastordinals (w + 7 * (4 - (l - d) / 7))

-- the day d of a month of l days is one of BYMONTHDAY's, from the front of the month or from its end
unfoldable pub month_day_serves : ByDays → ℕ → ℕ → Bool
month_day_serves b l d = has b.monthdays (d - 1) or has b.lastmonthdays (30 - (l - d))

-- one of BYDAY's or of BYMONTHDAY's; without either it is the start's day of the month, v
unfoldable pub day_serves : Rule → ℕ → ℕ → ℕ → ℕ → Bool
day_serves r v l d w = pick r.by.day (ordinal_serves r.days l d w) (pick r.by.monthday (month_day_serves r.days l d) (eqb d v))

-- the day n lies in a month that counts from that of the start's date e, and serves
unfoldable pub monthly_meets : Rule → Date → ℕ → Bool
monthly_meets r e n =
    let d = date_at n in
    counts r.interval (month_number d - month_number e) and day_serves r e.day (month_days d.year d.month) d.day (weekday_at n)

-- the place n meets the rule from the start m on, whose place is s
unfoldable pub meets_by : Frequency → Rule → Moment → ℕ → ℕ → Bool
meets_by Secondly r m s n = false
meets_by Minutely r m s n = false
meets_by Hourly r m s n = every_meets r s n
meets_by Daily r m s n = every_meets r s n
meets_by Weekly r m s n = weekly_meets r s n
meets_by Monthly r m s n = monthly_meets r m.date n
meets_by Yearly r m s n = false

unfoldable pub moments_by : Frequency → Rule → Moment → List Moment
moments_by f r m = map (moment_at f m) (due (meets_by f r m (place_of f m)) (places_of f) (place_of f m))

-- the moments that meet the rule, in time order, from the start on
unfoldable pub moments_of : Rule → Moment → List Moment
moments_of r m = moments_by r.frequency r m

-- as far as the rule's end allows: so many moments, none behind a last one, or all
unfoldable pub ended : End → List Moment → List Moment
ended (Count n) ms = take n ms
ended (Until u) ms = while (λ m. not_behind m u) ms
ended Open ms = ms

-- the first of them for which there is room
unfoldable pub listed : Rule → Moment → ℕ → List Moment
listed r m room = take room (ended r.end (moments_of r m))
