-- Months by number: the first of each that can be named is a day that can be named.
use Prim.Native.Nat.{ℕ, ◌+◌, ◌/◌, ◌%◌, ◌≤◌, ◌<◌}
use mathlib.Core.Path.{◌≡◌, sym}
use mathlib.Core.Bool.{Bool, true}
use mathlib.Core.Option.{none, some}
use native.Mathlib.Omega.{arith}
use native.Mathlib.Nat.{le_trans}
use borrow.Author.Tests.{lt-ltb, le-ltb}
use lib.Dec.{ltb, lit≤}
use Rattle.octets.specs.Optional.{when}
use Rattle.octets.proofs.Cases.{never}
use Rattle.octets.proofs.Optional.{when-is}
use Rattle.octets.proofs.Limits.{last-year}
use Rattle.calendar.specs.Gregorian.{month_days, is_day, date_on, day_number}
use Rattle.calendar.specs.Answers.{month_count, month_at}
use Rattle.calendar.proofs.Days.{Day, day-is, month-bounds}
use Rattle.calendar.proofs.Hours.{none-when}

pub month-count : month_count ≡ 120000
unfolding month_count
month-count = rw last-year

-- the first of the i-th month
pub first-day : (i : ℕ) → i < 120000 → Day (i / 12) (i % 12 + 1) 1
first-day i h = record {
  year = rw last-year (small i h);
  month-from = omega arith;
  month-to = omega arith;
  day-from = omega arith;
  day-to = le_trans (lit≤ tt) (month-bounds (i / 12) (i % 12 + 1) (omega arith) (omega arith)).0;
}
  where
    small : (i : ℕ) → i < 120000 → i / 12 ≤ 9999
    small i h = omega arith

pub first-is : (i : ℕ) → i < 120000 → is_day (i / 12) (i % 12 + 1) 1 ≡ true
first-is i h = day-is (first-day i h)

-- the i-th month, as the code finds it
pub month-past : (i : ℕ) → 120000 ≤ i → none ≡ when (ltb i month_count) (month_at i)
unfolding when
month-past i h = rw (month-count, le-ltb i 120000 h)

module _ (i : ℕ) (h : i < 120000) where
  abbrev day-one : Bool
  day-one = is_day (i / 12) (i % 12 + 1) 1

  pub month-lost : none ≡ when day-one (day_number (date_on (i / 12) (i % 12 + 1) 1)) → none ≡ when (ltb i month_count) (month_at i)
  month-lost e = never (first-is i h) (none-when day-one _ e)

  pub month-found : (n l : ℕ) → some n ≡ when day-one (day_number (date_on (i / 12) (i % 12 + 1) 1)) → l ≡ month_days (i / 12) (i % 12 + 1)
      → some (record { first = n; days = l }) ≡ when (ltb i month_count) (month_at i)
  unfolding when month_at
  month-found n l e f =
      let w : n ≡ day_number (date_on (i / 12) (i % 12 + 1) 1) = sym (when-is day-one _ n (sym e)).1 in
      rw (month-count, lt-ltb i 120000 h, w, f)
