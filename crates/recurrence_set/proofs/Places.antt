-- Places of moments, moments at places and limits of places, by what the tests of the code tell.
use Prim.Native.Nat.{ℕ, ◌+◌, ◌-◌, ◌*◌, ◌/◌, ◌%◌, ◌≤◌, ◌<◌, min}
use mathlib.Core.Path.{◌≡◌, sym, ap}
use mathlib.Core.Logic.{◌⊎◌, inl, inr}
use mathlib.Core.Bool.{Bool, true, false}
use mathlib.Core.Option.{none, some}
use native.Mathlib.Omega.{arith}
use native.Mathlib.Nat.{div-lt_iff_lt-mul, min-eq_left, min-eq_right}
use borrow.Author.Tests.{lt-ltb, leb-true}
use lib.Dec.{ltb, leb}
use Rattle.octets.specs.Optional.{when}
use Rattle.octets.proofs.Cases.{both, never}
use Rattle.octets.proofs.Optional.{when-is}
use Rattle.calendar.specs.Gregorian.{is_day, day_number, day_count, date_at}
use Rattle.calendar.specs.Dates.{is_clock}
use Rattle.calendar.specs.Moments.{is_moment, hour_number, at_hour, second_number}
use Rattle.calendar.specs.declared.dates.Date.{Date}
use Rattle.calendar.specs.declared.moments.Moment.{Moment}
use Rattle.calendar.specs.declared.rules.Frequency.{Frequency}
use Rattle.calendar.specs.declared.rules.End.{End}
use Rattle.calendar.specs.declared.rules.End.TheVariants.{Count, Until, Open}
use Rattle.calendar.proofs.Hours.{none-when, within}
use Rattle.calendar.proofs.Inverse.{day-count}
use Rattle.recurrence_set.specs.Meets.{is_hourly, place_of, places_of, on_day, moment_at}
use Rattle.recurrence_set.specs.Searches.{moment_on, unit_of, seconds_in, places_up_to, limit_of, real_end}

-- the number of a moment's day
abbrev has_day : Moment → Bool
has_day m = is_day m.date.year m.date.month m.date.day

abbrev has_time : Moment → Bool
has_time m = is_clock m.hour m.minute m.second

module _ {P : Type 0} (m : Moment) where
  pub never-time : has_time m ≡ false → is_moment m ≡ true → P
  unfolding is_moment
  never-time e h = never (both (has_day m) _ h).1 e

  pub never-day : none ≡ when (has_day m) (day_number m.date) → is_moment m ≡ true → P
  unfolding is_moment
  never-day e h = never (both (has_day m) _ h).0 (none-when _ _ e)

module _ (m : Moment) (n : ℕ) (e : some n ≡ when (has_day m) (day_number m.date)) where
  number : n ≡ day_number m.date
  number = sym (when-is _ _ _ (sym e)).1

  pub hour-place : (f : Frequency) → is_hourly f ≡ true → n * 24 + m.hour ≡ place_of f m
  unfolding place_of hour_number
  hour-place f h = rw (h, number)

  pub day-place : (f : Frequency) → is_hourly f ≡ false → n ≡ place_of f m
  unfolding place_of
  day-place f h = rw h number

  pub seconds-are : ((n * 24 + m.hour) * 60 + m.minute) * 60 + m.second ≡ second_number m
  unfolding second_number hour_number
  seconds-are = rw number

  module _ (t : has_time m ≡ true) where
    pub hours-few : n * 24 + m.hour < 87658200
    hours-few = within m 0 n t e

    pub seconds-few : ((n * 24 + m.hour) * 60 + m.minute) * 60 + m.second ≤ 315569520000
    unfolding is_clock
    seconds-few =
        let w = hours-few in
        let b = (both (leb m.hour 23) _ t).1 in
        let x = leb-true m.minute 59 (both (leb m.minute 59) _ b).0 in
        let y = leb-true m.second 60 (both (leb m.minute 59) _ b).1 in
        omega arith

-- the moment at a place
module _ (f : Frequency) (m : Moment) (n : ℕ) where
  pub hour-day : is_hourly f ≡ true → n < places_of f → n / 24 < day_count
  unfolding places_of
  hour-day e l = small day_count (rw e at l)
    where
      small : (d : ℕ) → n < d * 24 → n / 24 < d
      small d h = omega arith

  pub hour-moment : is_hourly f ≡ true → moment_on m (n / 24) (n % 24) ≡ moment_at f m n
  unfolding moment_at moment_on at_hour
  hour-moment e = rw e

  pub day-day : is_hourly f ≡ false → n < places_of f → n < day_count
  unfolding places_of
  day-day e l = rw e at l

  pub day-moment : is_hourly f ≡ false → moment_on m n m.hour ≡ moment_at f m n
  unfolding moment_at moment_on on_day
  day-moment e = rw e

pub date-said : (n : ℕ) (d : Date) → some d ≡ when (ltb n day_count) (date_at n) → d ≡ date_at n
date-said n d e = sym (when-is (ltb n day_count) (date_at n) d (sym e)).1

pub date-within : (n : ℕ) (d : Date) → some d ≡ when (ltb n day_count) (date_at n) → ltb n day_count ≡ true
date-within n d e = (when-is (ltb n day_count) (date_at n) d (sym e)).0

pub never-past : {P : Type 0} (n : ℕ) → none ≡ when (ltb n day_count) (date_at n) → n < day_count → P
never-past n e l = never (lt-ltb n day_count l) (none-when _ _ e)

-- the limits of places
pub all-hours : (f : Frequency) → is_hourly f ≡ true → 87658200 ≡ places_of f
unfolding places_of
all-hours f e = rw (e, day-count)

pub all-days : (f : Frequency) → is_hourly f ≡ false → 3652425 ≡ places_of f
unfolding places_of
all-days f e = rw (e, day-count)

pub places-few : (unit t u : ℕ) → 3600 ≤ unit → u ≤ 315569520000 → (u - t) / unit + 1 ≤ 87658201
places-few unit t u p q =
    let o : 0 < unit = omega arith in
    let w : (u - t) / unit < 87658201 = (div-lt_iff_lt-mul o).1 (omega arith) in
    up _ w
  where
    up : (x : ℕ) → x < 87658201 → x + 1 ≤ 87658201
    up x h = omega arith

module _ (f : Frequency) (m : Moment) (last : Moment) (u : ℕ) (s : u ≡ second_number last) where
  pub hour-until : is_hourly f ≡ true → places_up_to 3600 (m.minute * 60 + m.second) u ≡ places_up_to (unit_of f) (seconds_in f m) (second_number last)
  unfolding unit_of seconds_in
  hour-until e = rw (e, s)

  pub day-until : is_hourly f ≡ false → places_up_to 86400 (m.hour * 3600 + (m.minute * 60 + m.second)) u ≡ places_up_to (unit_of f) (seconds_in f m) (second_number last)
  unfolding unit_of seconds_in
  day-until e = rw (e, s) (ap (λ (t : ℕ). places_up_to 86400 t (second_number last)) (sums m.hour m.minute m.second))
    where
      sums : (h a b : ℕ) → h * 3600 + (a * 60 + b) ≡ (h * 60 + a) * 60 + b
      sums h a b = omega arith

module _ (f : Frequency) (m : Moment) (end : End) (a : ℕ) (p : a ≡ places_of f) where
  pub other-limit : ((k : ℕ) × (end ≡ Count k)) ⊎ (end ≡ Open) → a ≡ limit_of f m end
  unfolding limit_of
  other-limit (inl (k, e)) = rw e p
  other-limit (inr e) = rw e p

  pub until-limit : (last : Moment) (n : ℕ) → end ≡ Until last → (is_moment last ≡ true → n ≡ places_up_to (unit_of f) (seconds_in f m) (second_number last))
      → (r : ℕ) → r ≡ min a n → real_end end → r ≡ limit_of f m end
  unfolding limit_of
  until-limit last n e q r d h = let w = q (rw e at h) in rw (e, ← w, ← p) d

module _ (f : Frequency) (m : Moment) (end : End) (a : ℕ) (p : a ≡ places_of f) where
  pub count-limit : (k : ℕ) → end ≡ Count k → a ≡ limit_of f m end
  unfolding limit_of
  count-limit k e = rw e p

  pub open-limit : end ≡ Open → a ≡ limit_of f m end
  unfolding limit_of
  open-limit e = rw e p

  module _ (last : Moment) (n : ℕ) (e : end ≡ Until last) (q : is_moment last ≡ true → n ≡ places_up_to (unit_of f) (seconds_in f m) (second_number last)) where
    pub until-all : a < n → real_end end → a ≡ limit_of f m end
    unfolding limit_of
    until-all h r = let w = q (rw e at r) in rw (e, ← w, ← p) (sym (min-eq_left (less a n h)))
      where
        less : (a n : ℕ) → a < n → a ≤ n
        less a n h = omega arith

    pub until-some : n ≤ a → real_end end → n ≡ limit_of f m end
    unfolding limit_of
    until-some h r = let w = q (rw e at r) in rw (e, ← w, ← p) (sym (min-eq_right h))
