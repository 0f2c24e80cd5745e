-- Moments that are read, and those that they are moved to, can be named.
use Prim.Native.Nat.{ℕ, ◌+◌, ◌*◌, ◌/◌, ◌%◌, ◌≤◌, ◌<◌}
use mathlib.Core.Path.{◌≡◌, refl}
use mathlib.Core.Bool.{Bool, true, false}
use mathlib.Core.List.{List}
use mathlib.Core.Option.{Option, none, some}
use native.Mathlib.Omega.{arith}
use borrow.Author.Tests.{ltb-true, le-leb}
use lib.Dec.{ltb, leb}
use lib.ListN.{length}
use Rattle.octets.specs.Optional.{map?}
use Rattle.octets.specs.Classes.{upper}
use Rattle.octets.specs.Decimal.{value_from, value_of}
use Rattle.octets.proofs.Cases.{both, and-true}
use Rattle.octets.proofs.Positions.{ended}
use Rattle.calendar.specs.Gregorian.{is_day, day_count}
use Rattle.calendar.specs.Forms.{fits, date_form, clock_form, utc, date_time_form, number_at}
use Rattle.calendar.specs.Dates.{day_in, is_clock, clock_in, moment_in, date_of, date_time_of, moment_of}
use Rattle.calendar.specs.Moments.{kind_of, moment_from, read_moment, is_moment, hour_number, at_hour, moved}
use Rattle.calendar.specs.Texts.{kind_at}
use Rattle.calendar.specs.declared.moments.Moment.{Moment}
use Rattle.calendar.specs.declared.texts.Form.TheVariants.{Date, DateTime}
use Rattle.calendar.proofs.Inverse.{number-back}
use Rattle.calendar.proofs.Options.{when-is, guard-is, or-tells}
use Rattle.calendar.proofs.Extended.{not-fitting}
use Rattle.calendar.proofs.Readback.{form-fitted}

-- digits that are not there say 0
beyond : (at : ℕ) (t : List ℕ) → length t ≤ at → number_at at 2 t ≡ 0
unfolding number_at value_of value_from
beyond at t h = rw (ended t at h)

midnight : (t : List ℕ) → length t ≡ 10 → is_clock (number_at 11 2 t) (number_at 14 2 t) (number_at 17 2 t) ≡ true
unfolding is_clock
midnight t n = rw (beyond 11 t (omega arith), beyond 14 t (omega arith), beyond 17 t (omega arith))

date-length : (u t : List ℕ) → date_of u ≡ some t → length t ≡ 10
unfolding date_form
date-length u t e = (form-fitted Date u t e).count

date-real : (u t : List ℕ) → date_of u ≡ some t → is_moment (moment_from t) ≡ true
unfolding is_moment moment_from date_of day_in
date-real u t e = and-true (guard-is day_in _ t e).1 (midnight t (date-length u t e))

date-time-real : (u t : List ℕ) → date_time_of u ≡ some t → is_moment (moment_from t) ≡ true
unfolding is_moment moment_from date_time_of moment_in day_in clock_in
date-time-real u t e = (guard-is moment_in _ t e).1

pub text-real : (u t : List ℕ) → moment_of u ≡ some t → is_moment (moment_from t) ≡ true
unfolding moment_of
text-real u t e = or-tells (date_of u) (date_time_of u) t e (date-real u t) (λ n. date-time-real u t)

-- the length of a moment's text tells its kind
date-time-kind : (b : Bool) (t : List ℕ) → fits (date_time_form b) t ≡ true → length t ≡ length (date_time_form b) → kind_of t ≡ kind_at (length t)
unfolding kind_of kind_at date_time_form date_form clock_form utc
date-time-kind true t h n = rw (not-fitting date_form t (λ q. omega arith), h, n)
date-time-kind false t h n = rw (not-fitting date_form t (λ q. omega arith), not-fitting (date_time_form true) t (λ q. omega arith), n)

pub kind-by-length : (u t : List ℕ) → moment_of u ≡ some t → kind_of t ≡ kind_at (length t)
unfolding moment_of kind_of kind_at
kind-by-length u t e =
    or-tells (date_of u) (date_time_of u) t e
    (λ a. let r = form-fitted Date u t a in rw (r.has, r.count) (unfold date_form in refl))
    (λ n a. let r = form-fitted DateTime u t a in date-time-kind (leb 16 (length u)) t r.has r.count)

pub read_real : (s : List ℕ) (m : Moment) → read_moment s ≡ some m → is_moment m ≡ true
unfolding read_moment
read_real s m e = go (moment_of (upper s)) refl e
  where
    go : (o : Option (List ℕ)) → moment_of (upper s) ≡ o → map? moment_from o ≡ some m → is_moment m ≡ true
    go none q e = let z : ◌≡◌ {A = ℕ} 0 1 = (unfold map? in cc) in absurd (omega arith)
    go (some t) q e = let w : moment_from t ≡ m = (unfold map? in cc) in rw (← w) (text-real (upper s) t q)

in-days : (h d : ℕ) → h < d * 24 → (h / 24 < d) × (h % 24 ≤ 23)
in-days h d l = omega arith

at-hour-real : (m : Moment) (h : ℕ) → is_moment m ≡ true → h < day_count * 24 → is_moment (at_hour m h) ≡ true
unfolding is_moment at_hour is_clock
at-hour-real m h r l =
    let i = in-days h day_count l in
    let c = (both (is_day m.date.year m.date.month m.date.day) _ r).1 in
    and-true (number-back (h / 24) i.0).day (and-true (le-leb (h % 24) 23 i.1) (both (leb m.hour 23) _ c).1)

pub moved-real : (m n : Moment) (h : ℕ) → is_moment m ≡ true → moved m h ≡ some n → is_moment n ≡ true
unfolding moved
moved-real m n h r e =
    let w = when-is (ltb (hour_number m + h) (day_count * 24)) (at_hour m (hour_number m + h)) n e in
    rw w.1 at (at-hour-real m (hour_number m + h) r (ltb-true _ _ w.0))
