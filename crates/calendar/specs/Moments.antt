-- Moments: a date, a local date-time or one in UTC, read from a text, and moved on by hours (01, The stop list).
use Rattle.std.specs.Prelude.{ℕ, ◌+◌, ◌*◌, ◌/◌, ◌%◌, Bool, true, List, eqb, ltb, leb}
use Rattle.std.proofs.Math.Option.{Option}
use Rattle.octets.specs.Basics.{pick, ◌and◌}
use Rattle.octets.specs.Optional.{map?, when}
use Rattle.octets.specs.Classes.{upper}
use Rattle.calendar.specs.Gregorian.{is_day, date_on, day_number, day_count, date_at}
use Rattle.calendar.specs.Forms.{fits, date_form, date_time_form, number_at}
use Rattle.calendar.specs.Dates.{moment_of, is_clock}
use Rattle.calendar.specs.declared.moments.Kind.{Kind}
use Rattle.calendar.specs.declared.moments.Kind.TheVariants.{Day, Local, Utc}
use Rattle.calendar.specs.declared.moments.Moment.{Moment}

-- the kind, by the form that a text has in jCal
unfoldable pub kind_of : List ℕ → Kind
kind_of t = pick (fits date_form t) Day (pick (fits (date_time_form true) t) Utc Local)

-- the moment that a text in jCal's form names; a date has the time 0:00:00
unfoldable pub moment_from : List ℕ → Moment
moment_from t = record {
  date = date_on (number_at 0 4 t) (number_at 5 2 t) (number_at 8 2 t);
  hour = number_at 11 2 t;
  minute = number_at 14 2 t;
  second = number_at 17 2 t;
  kind = kind_of t;
}

-- the moment of an iCalendar date or date-time, letters in either case
unfoldable pub read_moment : List ℕ → Option Moment
read_moment s = map? moment_from (moment_of (upper s))

-- a moment that can be named
unfoldable pub is_moment : Moment → Bool
is_moment m = is_day m.date.year m.date.month m.date.day and is_clock m.hour m.minute m.second

-- hours from the first day on
unfoldable pub hour_number : Moment → ℕ
hour_number m = day_number m.date * 24 + m.hour

-- the moment at another hour, minute and second kept
unfoldable pub at_hour : Moment → ℕ → Moment
at_hour m h = record { date = date_at (h / 24); hour = h % 24; minute = m.minute; second = m.second; kind = m.kind }

-- h hours later, if not past 9999
unfoldable pub moved : Moment → ℕ → Option Moment
moved m h = when (ltb (hour_number m + h) (day_count * 24)) (at_hour m (hour_number m + h))

-- seconds from the first day on
unfoldable pub second_number : Moment → ℕ
second_number m = (hour_number m * 60 + m.minute) * 60 + m.second

-- a is not behind b; both are real times of one kind
unfoldable pub not_behind : Moment → Moment → Bool
not_behind a b = leb (second_number a) (second_number b)

-- the kinds, counted
unfoldable pub kind_place : Kind → ℕ
kind_place Day = 0
kind_place Local = 1
kind_place Utc = 2

unfoldable pub same_kind : Kind → Kind → Bool
same_kind a b = eqb (kind_place a) (kind_place b)
