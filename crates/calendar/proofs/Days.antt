-- The formula for a date's day number agrees with the sum over years and months. Years are counted from March there, 400 years early, so that
-- a leap day is the last day of its year.
use Prim.Native.Nat.{ℕ, zero, suc, ◌+◌, ◌-◌, ◌*◌, ◌/◌, ◌%◌, ◌≤◌}
use mathlib.Core.Path.{◌≡◌, refl}
use mathlib.Core.Bool.{true}
use native.Mathlib.Omega.{arith}
use native.Mathlib.Nat.{le_trans}
use native.Mathlib.Decide.{dec_le}
use borrow.Author.Tests.{eqb-true, eqb-false, leb-true, le-leb}
use lib.ListN.{get_or, take}
use lib.Dec.{eqb, leb}
use Rattle.octets.specs.Classes.{between}
use Rattle.octets.specs.Limits.{last_year}
use Rattle.octets.proofs.Cases.{cases, both, and-true}
use Rattle.octets.proofs.Limits.{last-year}
use Rattle.calendar.specs.Gregorian.{leap_day, months, month_days, year_days, is_day, sum, before_year, before_month}
use Rattle.calendar.proofs.Ranges.{below, alike, agree}

-- what `is_day` tells
pub record Day (y m d : ℕ) : Type 0 where
  pub year : y ≤ last_year
  pub month-from : 1 ≤ m
  pub month-to : m ≤ 12
  pub day-from : 1 ≤ d
  pub day-to : d ≤ month_days y m

pub day-tells : (y m d : ℕ) → is_day y m d ≡ true → Day y m d
unfolding is_day between
day-tells y m d h =
    let a = both (leb y last_year) _ h in
    let b = both (between 1 12 m) _ a.1 in
    let c = both (leb 1 m) _ b.0 in
    let e = both (leb 1 d) _ b.1 in
    record {
      year = leb-true y last_year a.0;
      month-from = leb-true 1 m c.0;
      month-to = leb-true m 12 c.1;
      day-from = leb-true 1 d e.0;
      day-to = leb-true d (month_days y m) e.1;
    }

pub day-is : {y m d : ℕ} → Day y m d → is_day y m d ≡ true
unfolding is_day between
day-is {y} {m} {d} h =
    and-true (le-leb y last_year h.year)
    (and-true (and-true (le-leb 1 m h.month-from) (le-leb m 12 h.month-to))
    (and-true (le-leb 1 d h.day-from) (le-leb d (month_days y m) h.day-to)))

pub leap-small : (y : ℕ) → leap_day y ≤ 1
unfolding leap_day
leap-small y = cases (eqb (y % 400) 0) (λ e. rw e (omega arith)) λ e. cases (eqb (y % 100) 0) (λ f. rw (e, f) (omega arith)) λ f.
    cases (eqb (y % 4) 0) (λ g. rw (e, f, g) (omega arith)) (λ g. rw (e, f, g) (omega arith))

-- what holds of both lengths of February holds in each year
pub leap-cases {ℓ} : (P : ℕ → Type ℓ) (y : ℕ) → P 0 → P 1 → P (leap_day y)
leap-cases P y a b = at (leap_day y) (leap-small y)
  where
    at : (l : ℕ) → l ≤ 1 → P l
    at zero h = a
    at (suc zero) h = b
    at (suc (suc l)) h = absurd (omega arith)

keeps-4 : (y : ℕ) → (y % 4 ≡ 0 → ⊥) → (y + 399) / 4 ≡ (y + 400) / 4
keeps-4 y h = omega arith

keeps-100 : (y : ℕ) → (y % 100 ≡ 0 → ⊥) → (y + 399) / 100 ≡ (y + 400) / 100
keeps-100 y h = omega arith

keeps-400 : (y : ℕ) → (y % 400 ≡ 0 → ⊥) → (y + 399) / 400 ≡ (y + 400) / 400
keeps-400 y h = omega arith

steps-4 : (y : ℕ) → y % 4 ≡ 0 → (y + 400) / 4 ≡ (y + 399) / 4 + 1
steps-4 y h = omega arith

steps-100 : (y : ℕ) → y % 100 ≡ 0 → (y + 400) / 100 ≡ (y + 399) / 100 + 1
steps-100 y h = omega arith

-- what 100 divides 4 divides, and what 400 divides 100
pub by_4 : (y : ℕ) → y % 100 ≡ 0 → y % 4 ≡ 0
by_4 y h = omega arith

pub by-100 : (y : ℕ) → y % 400 ≡ 0 → y % 100 ≡ 0
by-100 y h = omega arith

-- what a year adds to the count of leap days up to it
leap-step : (y : ℕ) → leap_day y + ((y + 399) / 4 + (y + 399) / 400) + (y + 400) / 100 ≡ (y + 400) / 4 + (y + 400) / 400 + (y + 399) / 100
unfolding leap_day
leap-step y =
    cases (eqb (y % 400) 0) (λ e. rw e (let h = eqb-true (y % 400) 0 e in omega arith)) λ e.
    cases (eqb (y % 100) 0)
    (λ f. let h = eqb-true (y % 100) 0 f in rw (e, f, keeps-400 y (eqb-false (y % 400) 0 e), steps-100 y h, steps-4 y (by_4 y h)) (omega arith)) λ f.
    cases (eqb (y % 4) 0)
    (λ g. rw (e, f, g, keeps-400 y (eqb-false (y % 400) 0 e), keeps-100 y (eqb-false (y % 100) 0 f), steps-4 y (eqb-true (y % 4) 0 g)) (omega arith))
    (λ g. rw (e, f, g, keeps-400 y (eqb-false (y % 400) 0 e), keeps-100 y (eqb-false (y % 100) 0 f), keeps-4 y (eqb-false (y % 4) 0 g)) (omega arith))

one_more : (y b l a4 a400 a100 b4 b400 b100 : ℕ) → b + a100 + 145731 ≡ 365 * (y + 399) + a4 + a400 → l + (a4 + a400) + b100 ≡ b4 + b400 + a100 →
    b + (365 + l) + b100 + 145731 ≡ 365 * (y + 400) + b4 + b400
one_more y b l a4 a400 a100 b4 b400 b100 p q = omega arith

later : (y : ℕ) → suc y + 399 ≡ y + 400
later y = omega arith

pub before-year : (y : ℕ) → before_year y + (y + 399) / 100 + 145731 ≡ 365 * (y + 399) + (y + 399) / 4 + (y + 399) / 400
unfolding before_year year_days
before-year zero = refl
before-year (suc y) = rw (later y) (one_more y _ _ _ _ _ _ _ _ (before-year y) (leap-step y))

-- the days before the year s that begins in March, from March 400 years early on
unfoldable pub march_year : ℕ → ℕ
march_year s = 365 * s + s / 4 + s / 400 - s / 100

drop-100 : (b x a4 a400 a100 : ℕ) → b + a100 + 145731 ≡ x + a4 + a400 → x + a4 + a400 - a100 ≡ b + 145731
drop-100 b x a4 a400 a100 p = omega arith

march-early : (y : ℕ) → march_year (y + 399) ≡ before_year y + 145731
unfolding march_year
march-early y = drop-100 (before_year y) (365 * (y + 399)) _ _ _ (before-year y)

march-late : (y : ℕ) → march_year (y + 400) ≡ before_year y + leap_day y + 146096
unfolding before_year year_days
march-late y = let h : march_year (y + 400) ≡ before_year y + (365 + leap_day y) + 145731 = rw (later y) at (march-early (suc y)) in omega arith

-- the days before a month, from March and from January
unfoldable pub from_march : ℕ → ℕ
from_march m = (153 * ((m + 9) % 12) + 2) / 5

abbrev from_january : ℕ → ℕ → ℕ
from_january l m = sum (take (m - 1) (months l))

-- a month by its place from January on
back : (m : ℕ) → 1 ≤ m → m - 1 + 1 ≡ m
back m p = omega arith

month-early : (y m : ℕ) → 1 ≤ m → m ≤ 2 → before_month y m + 306 ≡ from_march m
unfolding before_month
month-early y m p q = rw (back m p) at (agree (λ i. from_january (leap_day y) (i + 1) + 306) (λ i. from_march (i + 1)) 2 tested (m - 1) (omega arith))
  where
    tested : below (alike (λ i. from_january (leap_day y) (i + 1) + 306) (λ i. from_march (i + 1))) 2 ≡ true
    tested = unfold below months sum from_march in leap-cases (λ l. below (alike (λ i. from_january l (i + 1) + 306) (λ i. from_march (i + 1))) 2 ≡ true) y refl refl

month-late : (y m : ℕ) → 3 ≤ m → m ≤ 12 → before_month y m ≡ leap_day y + 59 + from_march m
unfolding before_month
month-late y m p q = rw (back m p) at (agree (λ i. from_january (leap_day y) (i + 3)) (λ i. leap_day y + 59 + from_march (i + 3)) 10 tested (m - 3) (omega arith))
  where
    back : (m : ℕ) → 3 ≤ m → m - 3 + 3 ≡ m
    back m p = omega arith

    tested : below (alike (λ i. from_january (leap_day y) (i + 3)) (λ i. leap_day y + 59 + from_march (i + 3))) 10 ≡ true
    tested = unfold below months sum from_march in leap-cases (λ l. below (alike (λ i. from_january l (i + 3)) (λ i. l + 59 + from_march (i + 3))) 10 ≡ true) y refl refl

-- the day d of the month m of the year y, by the formula
unfoldable pub by_formula : ℕ → ℕ → ℕ → ℕ
by_formula y m d = march_year (y + 400 - (14 - m) / 12) + from_march m + d

pub record Counted (y m d n : ℕ) : Type 0 where
  pub number : n - 146038 ≡ before_year y + (before_month y m + (d - 1))
  pub enough : 146038 ≤ n

pub counted : (y m d : ℕ) → 1 ≤ m → m ≤ 12 → 1 ≤ d → Counted y m d (by_formula y m d)
unfolding by_formula
counted y m d p q r = go (dec_le m 2)
  where
    early : m ≤ 2 → y + 400 - (14 - m) / 12 ≡ y + 399
    early h = omega arith

    late : 3 ≤ m → y + 400 - (14 - m) / 12 ≡ y + 400
    late h = omega arith

    sum-early : (b o f : ℕ) → o + 306 ≡ f → (b + 145731 + f + d - 146038 ≡ b + (o + (d - 1))) × (146038 ≤ b + 145731 + f + d)
    sum-early b o f e = omega arith

    sum-late : (b l o f : ℕ) → o ≡ l + 59 + f → (b + l + 146096 + f + d - 146038 ≡ b + (o + (d - 1))) × (146038 ≤ b + l + 146096 + f + d)
    sum-late b l o f e = omega arith

    go : Dec (m ≤ 2) → Counted y m d (march_year (y + 400 - (14 - m) / 12) + from_march m + d)
    go (yes h) =
        let s = sum-early (before_year y) (before_month y m) (from_march m) (month-early y m p h) in
        rw (early h, march-early y) (record { number = s.0; enough = s.1 })
    go (no h) =
        let g : 3 ≤ m = omega arith in
        let s = sum-late (before_year y) (leap_day y) (before_month y m) (from_march m) (month-late y m g q) in
        rw (late g, march-late y) (record { number = s.0; enough = s.1 })

-- a day's bounds in numbers
pub record Bounds (y m d : ℕ) : Type 0 where
  pub year : y ≤ 9999
  pub month-from : 1 ≤ m
  pub month-to : m ≤ 12
  pub day-from : 1 ≤ d
  pub day-to : d ≤ 31

-- the length of a month by formula; February has l days more than 28
abbrev month_formula : ℕ → ℕ → ℕ
month_formula l m = 30 + (m + m / 8) % 2 - (m + 9) % 12 / 11 * (2 - l)

pub month-length : (y m : ℕ) → 1 ≤ m → m ≤ 12 → month_formula (leap_day y) m ≡ month_days y m
unfolding month_days
month-length y m p q = rw (back m p) at (agree (λ i. month_formula (leap_day y) (i + 1)) (λ i. get_or (months (leap_day y)) (i + 1 - 1) 0) 12 tested (m - 1) (omega arith))
  where
    tested : below (alike (λ i. month_formula (leap_day y) (i + 1)) (λ i. get_or (months (leap_day y)) (i + 1 - 1) 0)) 12 ≡ true
    tested = unfold below months in leap-cases (λ l. below (alike (λ i. month_formula l (i + 1)) (λ i. get_or (months l) (i + 1 - 1) 0)) 12 ≡ true) y refl refl

-- what a month lacks of 30 days is two at most
pub lack-small : (m l : ℕ) → (m + 9) % 12 / 11 * (2 - l) ≤ 2
lack-small m l = at ((m + 9) % 12 / 11) (omega arith)
  where
    at : (k : ℕ) → k ≤ 1 → k * (2 - l) ≤ 2
    at zero h = omega arith
    at (suc zero) h = omega arith
    at (suc (suc k)) h = absurd (omega arith)

-- a month has 28 days at least, and at most 31
pub month-bounds : (y m : ℕ) → 1 ≤ m → m ≤ 12 → (28 ≤ month_days y m) × (month_days y m ≤ 31)
month-bounds y m p q = within _ _ _ (month-length y m p q) (lack-small m (leap_day y))
  where
    within : (a b n : ℕ) → 30 + a % 2 - b ≡ n → b ≤ 2 → (28 ≤ n) × (n ≤ 31)
    within a b n e h = omega arith

pub bounds : (y m d : ℕ) → is_day y m d ≡ true → Bounds y m d
bounds y m d h =
    let f = day-tells y m d h in
    record {
      year = rw last-year at f.year;
      month-from = f.month-from;
      month-to = f.month-to;
      day-from = f.day-from;
      day-to = le_trans f.day-to (month-bounds y m f.month-from f.month-to).1;
    }
