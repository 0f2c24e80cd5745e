-- Moments moved on by hours: what the code's tests tell of the definition.
use Prim.Native.Nat.{ℕ, ◌+◌, ◌*◌, ◌/◌, ◌%◌, ◌≤◌, ◌<◌}
use mathlib.Core.Path.{◌≡◌, refl, sym, ◌∙◌}
use mathlib.Core.Bool.{Bool, true, false}
use mathlib.Core.Option.{none, some}
use native.Mathlib.Omega.{arith}
use borrow.Author.Tests.{lt-ltb, le-ltb, leb-true}
use lib.Dec.{ltb, leb}
use Rattle.octets.specs.Optional.{when, given}
use Rattle.octets.proofs.Cases.{both, and-false-right}
use Rattle.octets.proofs.Optional.{when-is}
use Rattle.calendar.specs.Gregorian.{is_day, day_number, day_count, date_at}
use Rattle.calendar.specs.Dates.{is_clock}
use Rattle.calendar.specs.Moments.{is_moment, hour_number, at_hour, moved}
use Rattle.calendar.specs.Answers.{moved_on}
use Rattle.calendar.specs.declared.dates.Date.{Date}
use Rattle.calendar.specs.declared.moments.Moment.{Moment}
use Rattle.calendar.specs.declared.moments.NotMoved.TheVariants.{Past, NoMoment}
use Rattle.std.specs.Prelude.{Ok, Err}
use Rattle.calendar.proofs.Inverse.{day-count, number_small}

-- what `when` tells where there is nothing
pub none-when : {A : Type 0} (b : Bool) (x : A) → none ≡ when b x → b ≡ false
unfolding when
none-when true x e = let z : ◌≡◌ {A = ℕ} 0 1 = cc in absurd (omega arith)
none-when false x e = refl

abbrev on_day : Date → Bool
on_day d = is_day d.year d.month d.day

abbrev at_time : Moment → Bool
at_time m = is_clock m.hour m.minute m.second

module _ (m : Moment) (h : ℕ) where
  pub no-time : at_time m ≡ false → Err NoMoment ≡ moved_on m h
  unfolding moved_on is_moment
  no-time e = rw (e, and-false-right (on_day m.date))

  pub no-day : none ≡ when (on_day m.date) (day_number m.date) → Err NoMoment ≡ moved_on m h
  unfolding moved_on is_moment
  no-day e = rw (none-when _ _ e)

  module _ (n : ℕ) (t : at_time m ≡ true) (e : some n ≡ when (on_day m.date) (day_number m.date)) where
    day : on_day m.date ≡ true
    day = (when-is _ _ _ (sym e)).0

    number : n ≡ day_number m.date
    number = sym (when-is _ _ _ (sym e)).1

    small : n < 3652425
    small = rw (number, ← day-count) (number_small m.date day)

    pub within : n * 24 + m.hour < 87658200
    unfolding is_clock
    within = let s = small in let t = leb-true m.hour 23 (both (leb m.hour 23) _ t).0 in omega arith

    moves : moved_on m h ≡ given (Err Past) Ok (when (ltb (n * 24 + m.hour + h) 87658200) (at_hour m (n * 24 + m.hour + h)))
    unfolding moved_on is_moment moved hour_number
    moves = rw (day, t, ← number, day-count)

    pub past : 87658200 ≤ n * 24 + m.hour + h → Err Past ≡ moved_on m h
    unfolding when given
    past p = sym (moves ∙ rw (le-ltb (n * 24 + m.hour + h) 87658200 p))

    module _ (p : n * 24 + m.hour + h < 87658200) where
      there-small : (n * 24 + m.hour + h) / 24 < 3652425
      there-small = omega arith

      pub never-past : none ≡ when (ltb ((n * 24 + m.hour + h) / 24) day_count) (date_at ((n * 24 + m.hour + h) / 24)) → ⊥
      never-past q =
          let f : true ≡ false = rw (day-count, lt-ltb _ _ there-small) at (none-when _ _ q) in
          let z : ◌≡◌ {A = ℕ} 0 1 = cc in omega arith

      pub arrives : (d : Date) → some d ≡ when (ltb ((n * 24 + m.hour + h) / 24) day_count) (date_at ((n * 24 + m.hour + h) / 24))
          → Ok (record { date = d; hour = (n * 24 + m.hour + h) % 24; minute = m.minute; second = m.second; kind = m.kind }) ≡ moved_on m h
      unfolding at_hour when given
      arrives d q =
          let e : d ≡ date_at ((n * 24 + m.hour + h) / 24) = sym (when-is (ltb ((n * 24 + m.hour + h) / 24) day_count) (date_at ((n * 24 + m.hour + h) / 24)) d (sym q)).1 in
          sym (moves ∙ rw (lt-ltb (n * 24 + m.hour + h) 87658200 p, e))
