-- The search of a series by its frequency: what the search of the frequency finds, the series finds.
use Prim.Native.Nat.{ℕ, ◌≤◌, ◌<◌}
use mathlib.Core.Path.{◌≡◌, refl, sym, subst, ◌∙◌}
use mathlib.Core.Bool.{true, false}
use Rattle.std.specs.Prelude.{Some, None}
use Rattle.std.specs.declared.option.Option as code
use mathlib.Core.Logic.{◌⊎◌, inl, inr}
use native.Mathlib.Omega.{arith}
use Rattle.octets.proofs.Cases.{both}
use Rattle.calendar.specs.Gregorian.{is_day, day_number, day_count, date_at, month_number}
use Rattle.calendar.specs.Moments.{is_moment}
use Rattle.calendar.specs.declared.rules.Frequency.{Frequency}
use Rattle.calendar.specs.declared.rules.Frequency.TheVariants.{Secondly, Minutely, Hourly, Daily, Weekly, Monthly, Yearly}
use Rattle.calendar.proofs.Inverse.{date-back}
use Rattle.recurrence_set.specs.declared.Series.{Series}
use Rattle.recurrence_set.specs.Meets.{is_hourly, place_of, places_of, every_meets, weekly_meets, monthly_meets, meets_by}
use Rattle.recurrence_set.specs.Searches.{First, NextOf, meets_at, Founded}
use Rattle.recurrence_set.proofs.Due.{first-none, nothing-next}
use Rattle.recurrence_set.proofs.MonthSearch.{month-order}

module _ (s : Series) (from : ℕ) (o : code.Option ℕ) where
  by : (f : Frequency) → s.rule.frequency ≡ f → NextOf (meets_by f s.rule s.start s.place) s.places from o → NextOf (meets_at s) s.places from o
  unfolding meets_at
  by f e h = subst (λ (g : Frequency). NextOf (meets_by g s.rule s.start s.place) s.places from o) (sym e) h

  pub by-weekly : s.rule.frequency ≡ Weekly → NextOf (weekly_meets s.rule s.place) s.places from o → NextOf (meets_at s) s.places from o
  unfolding meets_by
  by-weekly e h = by Weekly e h

pub by-every : (s : Series) (from r : ℕ) → (s.rule.frequency ≡ Hourly) ⊎ (s.rule.frequency ≡ Daily) → ((l : ℕ) → First (every_meets s.rule s.place) l from r) → NextOf (meets_at s) s.places from (Some r)
unfolding meets_by
by-every s from r (inl e) h = by s from (Some r) Hourly e (h s.places)
by-every s from r (inr e) h = by s from (Some r) Daily e (h s.places)

-- the frequencies that no place meets
module _ (s : Series) (from : ℕ) (l : from < s.places) where
  by-none : (f : Frequency) → s.rule.frequency ≡ f → ((n : ℕ) → meets_by f s.rule s.start s.place n ≡ false) → NextOf (meets_at s) s.places from None
  by-none f e h = by s from None f e (nothing-next _ s.places from s.places (omega arith) (first-none _ s.places from s.places (omega arith) (omega arith) (λ k x y. h k)))

  pub by-nothing : (s.rule.frequency ≡ Secondly) ⊎ ((s.rule.frequency ≡ Minutely) ⊎ (s.rule.frequency ≡ Yearly)) → NextOf (meets_at s) s.places from None
  by-nothing (inl e) = by-none Secondly e (λ n. unfold meets_by in refl)
  by-nothing (inr (inl e)) = by-none Minutely e (λ n. unfold meets_by in refl)
  by-nothing (inr (inr e)) = by-none Yearly e (λ n. unfold meets_by in refl)

  -- a monthly rule: its places are days, and the day to begin with lies not before the start's
  module _ (h : Founded s) (b : s.place ≤ from) (e : s.rule.frequency ≡ Monthly) where
    monthly-places : s.places ≤ day_count
    unfolding places_of is_hourly
    monthly-places = rw e at h.places

    monthly-place : s.place ≡ day_number s.start.date
    unfolding place_of is_hourly
    monthly-place = h.place ∙ rw e

    start-day : is_day s.start.date.year s.start.date.month s.start.date.day ≡ true
    unfolding is_moment
    start-day = (both (is_day s.start.date.year s.start.date.month s.start.date.day) _ h.start).0

    monthly-start : month_number s.start.date ≤ month_number (date_at from)
    monthly-start =
        let q = monthly-places in
        let p = monthly-place in
        rw (date-back s.start.date start-day) at (month-order (day_number s.start.date) from (omega arith) (omega arith))

    pub by-monthly : (o : code.Option ℕ)
        → (s.places ≤ day_count → month_number s.start.date ≤ month_number (date_at from) → NextOf (monthly_meets s.rule s.start.date) s.places from o)
        → NextOf (meets_at s) s.places from o
    unfolding meets_by
    by-monthly o f = by s from o Monthly e (f monthly-places monthly-start)
