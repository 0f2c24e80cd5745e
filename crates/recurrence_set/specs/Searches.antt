-- The search for the places that meet a rule, as the code has it: the least number of a set, the days of a week or a month as sets, and the first
-- place from one on.
use Rattle.std.specs.Prelude.{ℕ, ◌+◌, ◌-◌, ◌*◌, ◌/◌, ◌%◌, ◌^◌, ◌≤◌, ◌<◌, min, ◌≡◌, Bool, true, false, [], eqb, ltb, Some, None}
use Rattle.std.specs.declared.option.Option as code
use Rattle.octets.specs.Basics.{pick, ◌and◌}
use Rattle.calendar.specs.Gregorian.{day_count, date_at, month_number}
use Rattle.calendar.specs.Moments.{is_moment, second_number}
use Rattle.calendar.specs.Answers.{month_count, month_at}
use Rattle.calendar.specs.Sets.{has}
use Rattle.calendar.specs.declared.dates.Date.{Date}
use Rattle.calendar.specs.declared.moments.Moment.{Moment}
use Rattle.calendar.specs.declared.rules.Frequency.{Frequency}
use Rattle.calendar.specs.declared.rules.End.{End}
use Rattle.calendar.specs.declared.rules.End.TheVariants.{Count, Until, Open}
use Rattle.calendar.specs.declared.rules.Rule.{Rule}
use Rattle.recurrence_set.specs.declared.Series.{Series}
use Rattle.recurrence_set.specs.Lists.{due}
use Rattle.recurrence_set.specs.Meets.{is_hourly, place_of, places_of, weekday_serves, day_serves, meets_by}

-- r is the first from a on and below l that passes; it is l or more where none does
pub record First (p : ℕ → Bool) (l a r : ℕ) : Type 0 where
  pub from : a ≤ r
  pub same : due p l a ≡ due p l r
  pub passes : r < l → p r ≡ true

-- the first from a on and below l that passes, or that none does
abbrev pub FirstOf : (ℕ → Bool) → ℕ → ℕ → code.Option ℕ → Type 0
FirstOf p l a None = due p l a ≡ []
FirstOf p l a (Some r) = First p l a r × (r < l)

-- a first from a on that passes, or a place at l or behind it; or that none below l passes
abbrev pub NextOf : (ℕ → Bool) → ℕ → ℕ → code.Option ℕ → Type 0
NextOf p l a None = due p l a ≡ []
NextOf p l a (Some r) = First p l a r

-- r is the least number of a set, or 64 where it has none below
pub record Least (set r : ℕ) : Type 0 where
  pub most : r ≤ 64
  pub none : (k : ℕ) → k < r → has set k ≡ false
  pub there : r < 64 → has set r ≡ true

-- the least number of a set, or that it has none
abbrev pub LeastOf : ℕ → code.Option ℕ → Type 0
LeastOf set None = set ≡ 0
LeastOf set (Some r) = Least set r × (set ≡ 0 → ⊥)

-- of the numbers below l, the set r has those that pass; and it has no other
pub record Marks (l : ℕ) (p : ℕ → Bool) (r : ℕ) : Type 0 where
  pub days : (k : ℕ) → k < l → has r k ≡ p k

pub record MarksOnly (l : ℕ) (p : ℕ → Bool) (r : ℕ) : Type 0 where
  pub days : (k : ℕ) → k < l → has r k ≡ p k
  pub small : r < 2 ^ l

-- the places in a week that begins on the weekday w whose weekdays serve; v is the start's weekday
unfoldable pub serves_in_week : Rule → ℕ → ℕ → ℕ → Bool
serves_in_week rule v w k = weekday_serves rule v ((k + w) % 7)

-- the days of a month of l days that begins on the weekday w that serve, the first at the place 0; v is the start's day of the month
unfoldable pub serves_in_month : Rule → ℕ → ℕ → ℕ → ℕ → Bool
serves_in_month rule v l w k = day_serves rule v l (k + 1) ((k + w) % 7)

-- BYDAY names no day that a month can have
unfoldable pub names_none : Rule → Bool
names_none r = r.by.day and eqb (r.days.weekdays % 2 ^ 7) 0 and eqb (r.days.ordinals % 2 ^ 35) 0 and eqb (r.days.lastordinals % 2 ^ 35) 0

-- the first day of a month; the number of all days for a month behind 9999
unfoldable pub month_first : ℕ → ℕ
month_first i = pick (ltb i month_count) (month_at i).first day_count

-- the month i counts from that of the date e on
pub record Counting (r : Rule) (e : Date) (i : ℕ) : Type 0 where
  pub from : month_number e ≤ i
  pub counts : (i - month_number e) % r.interval ≡ 0

-- the start's moment on another day and at another hour
unfoldable pub moment_on : Moment → ℕ → ℕ → Moment
moment_on m n h = record { date = date_at n; hour = h; minute = m.minute; second = m.second; kind = m.kind }

-- the seconds of a place, and those of the start behind the beginning of its place
unfoldable pub unit_of : Frequency → ℕ
unit_of f = pick (is_hourly f) 3600 86400

unfoldable pub seconds_in : Frequency → Moment → ℕ
seconds_in f m = pick (is_hourly f) (m.minute * 60 + m.second) ((m.hour * 60 + m.minute) * 60 + m.second)

-- of places of so many seconds, at t seconds in each, how many lie not behind the second u
unfoldable pub places_up_to : ℕ → ℕ → ℕ → ℕ
places_up_to unit t u = pick (ltb u t) 0 ((u - t) / unit + 1)

-- the places up to the rule's end
unfoldable pub limit_of : Frequency → Moment → End → ℕ
limit_of f m (Count n) = places_of f
limit_of f m (Until u) = min (places_of f) (places_up_to (unit_of f) (seconds_in f m) (second_number u))
limit_of f m Open = places_of f

-- how many moments a rule's COUNT and the room leave
unfoldable pub room_of : End → ℕ → ℕ
room_of (Count n) room = min n room
room_of (Until u) room = room
room_of Open room = room

-- a rule with its start
unfoldable pub series_of : Moment → Rule → Series
series_of m r = record { rule = r; start = m; place = place_of r.frequency m; places = limit_of r.frequency m r.end }

-- a place meets the rule of a series
unfoldable pub meets_at : Series → ℕ → Bool
meets_at s n = meets_by s.rule.frequency s.rule s.start s.place n

-- a last moment can be named
abbrev pub real_end : End → Type 0
real_end (Count n) = Unit {0}
real_end (Until u) = is_moment u ≡ true
real_end Open = Unit {0}

-- its interval is no 0, its start can be named and lies at its place, and its places can be named
pub record Founded (s : Series) : Type 0 where
  pub interval : 1 ≤ s.rule.interval
  pub start : is_moment s.start ≡ true
  pub place : s.place ≡ place_of s.rule.frequency s.start
  pub places : s.places ≤ places_of s.rule.frequency
