-- What a recurrence rule says as a whole: its frequency, interval, end, week start, which parts it has, and the days that BYDAY and BYMONTHDAY name
-- (RFC 5545 3.3.10; 01, The stop list; 02, [1]).
use Rattle.std.specs.Prelude.{ℕ, ◌+◌, ◌-◌, ◌*◌, min, List, [], ◌∷◌, eqb, leb, length, take, drop}
use Rattle.std.proofs.Math.Option.{Option, none, some}
use Rattle.octets.specs.Basics.{octets, pick, same, among}
use Rattle.octets.specs.Optional.{map?, given}
use Rattle.octets.specs.Classes.{between, upper}
use Rattle.octets.specs.Decimal.{value_of, minus, unsigned}
use Rattle.calendar.specs.Dates.{moment_of}
use Rattle.calendar.specs.Recurrence.{Part, names, parts_of}
use Rattle.calendar.specs.Moments.{moment_from}
use Rattle.calendar.specs.Sets.{with}
use Rattle.calendar.specs.declared.moments.Moment.{Moment}
use Rattle.calendar.specs.declared.rules.Frequency.{Frequency}
use Rattle.calendar.specs.declared.rules.Frequency.TheVariants.{Secondly, Minutely, Hourly, Daily, Weekly, Monthly, Yearly}
use Rattle.calendar.specs.declared.rules.Weekday.{Weekday}
use Rattle.calendar.specs.declared.rules.Weekday.TheVariants.{Sunday, Monday, Tuesday, Wednesday, Thursday, Friday, Saturday}
use Rattle.calendar.specs.declared.rules.End.{End}
use Rattle.calendar.specs.declared.rules.End.TheVariants.{Count, Until, Open}
use Rattle.calendar.specs.declared.rules.ByParts.{ByParts}
use Rattle.calendar.specs.declared.by_days.ByDays.{ByDays}
use Rattle.calendar.specs.declared.rules.Rule.{Rule}

unfoldable pub first_of : List (List ℕ) → List ℕ
first_of [] = []
first_of (v ∷ vs) = v

-- the first value of the part of a name, if there is one
unfoldable pub value_named : List ℕ → List Part → Option (List ℕ)
value_named n [] = none
value_named n (p ∷ ps) = pick (same n p.name) (some (first_of p.values)) (value_named n ps)

unfoldable pub frequency_of : List ℕ → Frequency
frequency_of v =
    pick (same v (octets "SECONDLY")) Secondly (pick (same v (octets "MINUTELY")) Minutely (pick (same v (octets "HOURLY")) Hourly
    (pick (same v (octets "DAILY")) Daily (pick (same v (octets "WEEKLY")) Weekly (pick (same v (octets "MONTHLY")) Monthly Yearly)))))

unfoldable pub weekday_of : List ℕ → Weekday
weekday_of v =
    pick (same v (octets "SU")) Sunday (pick (same v (octets "MO")) Monday (pick (same v (octets "TU")) Tuesday
    (pick (same v (octets "WE")) Wednesday (pick (same v (octets "TH")) Thursday (pick (same v (octets "FR")) Friday Saturday)))))

-- a last moment, in iCalendar's form
unfoldable pub until_moment : List ℕ → Moment
until_moment v = moment_from (given v (λ t. t) (moment_of v))

-- a count, a last moment or open
unfoldable pub end_of : List Part → End
end_of ps =
    given (given Open (λ v. Until (until_moment v)) (value_named (octets "UNTIL") ps)) (λ v. Count (value_of v)) (value_named (octets "COUNT") ps)

-- which BY parts there are
unfoldable pub by_parts : List Part → ByParts
by_parts ps = record {
  second = among (octets "BYSECOND") (names ps);
  minute = among (octets "BYMINUTE") (names ps);
  hour = among (octets "BYHOUR") (names ps);
  day = among (octets "BYDAY") (names ps);
  monthday = among (octets "BYMONTHDAY") (names ps);
  yearday = among (octets "BYYEARDAY") (names ps);
  weekno = among (octets "BYWEEKNO") (names ps);
  month = among (octets "BYMONTH") (names ps);
  setpos = among (octets "BYSETPOS") (names ps);
}

-- the values of the part of a name, if there is one
unfoldable pub values_named : List ℕ → List Part → List (List ℕ)
values_named n [] = []
values_named n (p ∷ ps) = pick (same n p.name) p.values (values_named n ps)

-- weekdays, counted from Monday
unfoldable pub weekday_place : Weekday → ℕ
weekday_place Monday = 0
weekday_place Tuesday = 1
weekday_place Wednesday = 2
weekday_place Thursday = 3
weekday_place Friday = 4
weekday_place Saturday = 5
weekday_place Sunday = 6

-- The days that BYDAY and BYMONTHDAY name, as sets in which later days have higher places. A weekday w has the place w; the n-th such weekday of a
-- month w + 7 * (n - 1), and the n-th from its end w + 7 * (5 - n); no month has a sixth, whose place is w + 7 * 5. The n-th day of a month has the
-- place n - 1, and the n-th from its end 31 - n.
unfoldable pub no_days : ByDays
no_days = record { weekdays = 0; ordinals = 0; lastordinals = 0; monthdays = 0; lastmonthdays = 0 }

abbrev pub with_weekday : ByDays → ℕ → ByDays
with_weekday b k =
    record { weekdays = with b.weekdays k; ordinals = b.ordinals; lastordinals = b.lastordinals; monthdays = b.monthdays; lastmonthdays = b.lastmonthdays }

abbrev pub with_ordinal : ByDays → ℕ → ByDays
with_ordinal b k =
    record { weekdays = b.weekdays; ordinals = with b.ordinals k; lastordinals = b.lastordinals; monthdays = b.monthdays; lastmonthdays = b.lastmonthdays }

abbrev pub with_last_ordinal : ByDays → ℕ → ByDays
with_last_ordinal b k =
    record { weekdays = b.weekdays; ordinals = b.ordinals; lastordinals = with b.lastordinals k; monthdays = b.monthdays; lastmonthdays = b.lastmonthdays }

-- with a value of BYDAY, letters in either case: a weekday, or with a number in front its n-th, with a minus its n-th from the end
unfoldable pub with_day : ByDays → List ℕ → ByDays
with_day b v =
    let w = weekday_place (weekday_of (upper (drop (length v - 2) v))) in
    let n = value_of (unsigned (take (length v - 2) v)) in
    pick (eqb n 0) (with_weekday b w)
    (pick (minus v) (with_last_ordinal b (w + 7 * pick (leb n 5) (5 - n) 5)) (with_ordinal b (w + 7 * (min n 6 - 1))))

-- with a value of BYMONTHDAY: a number from 1 to 31, with a minus from the end
unfoldable pub with_month_day : ByDays → List ℕ → ByDays
with_month_day b v =
    let n = value_of (unsigned v) in
    pick (between 1 31 n)
    (pick (minus v)
    (record { weekdays = b.weekdays; ordinals = b.ordinals; lastordinals = b.lastordinals; monthdays = b.monthdays; lastmonthdays = with b.lastmonthdays (31 - n) })
    (record { weekdays = b.weekdays; ordinals = b.ordinals; lastordinals = b.lastordinals; monthdays = with b.monthdays (n - 1); lastmonthdays = b.lastmonthdays }))
    b

-- values one after another
unfoldable pub gathered : (ByDays → List ℕ → ByDays) → ByDays → List (List ℕ) → ByDays
gathered f b [] = b
gathered f b (v ∷ vs) = gathered f (f b v) vs

unfoldable pub days_of : List Part → ByDays
days_of ps = gathered with_month_day (gathered with_day no_days (values_named (octets "BYDAY") ps)) (values_named (octets "BYMONTHDAY") ps)

-- RFC 5545 3.3.10: without INTERVAL it is 1, without WKST Monday
unfoldable pub rule_from : List Part → Rule
rule_from ps = record {
  frequency = frequency_of (given [] (λ v. v) (value_named (octets "FREQ") ps));
  interval = given 1 value_of (value_named (octets "INTERVAL") ps);
  end = end_of ps;
  wkst = given Monday weekday_of (value_named (octets "WKST") ps);
  by = by_parts ps;
  days = days_of ps;
}

-- the rule of a text, letters in either case
unfoldable pub read_rule : List ℕ → Option Rule
read_rule s = map? rule_from (parts_of (upper s))
