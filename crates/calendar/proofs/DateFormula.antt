-- From a day number to the date, by divisions: the century c of the years from March, the year e of the century, the day t of the year, and its month k.
use Prim.Native.Nat.{ℕ, ◌+◌, ◌-◌, ◌*◌, ◌/◌, ◌%◌, ◌≤◌, ◌<◌}
use mathlib.Core.Path.{◌≡◌, refl, ap, sym, ◌∙◌}
use mathlib.Core.Bool.{true}
use native.Mathlib.Omega.{arith}
use native.Mathlib.Decide.{dec_le}
use lib.ListN.{get_or}
use lib.Dec.{eqb, lit≤}
use borrow.Author.Tests.{eqb-true, eqb-false}
use Rattle.octets.specs.Limits.{last_year}
use Rattle.octets.proofs.Cases.{cases}
use Rattle.octets.proofs.Limits.{last-year}
use Rattle.calendar.specs.Gregorian.{leap_day, months, month_days, before_year, before_month}
use Rattle.calendar.proofs.Ranges.{below, ordered, order}
use Rattle.calendar.proofs.Days.{Day, leap-cases, march_year, from_march, by_formula, counted}

-- the days before a year, by its century and its year of the century
by-century : (c e : ℕ) → e ≤ 99 → march_year (100 * c + e) ≡ 36524 * c + c / 4 + (365 * e + e / 4)
unfolding march_year
by-century c e h = rw (d4, d100, d400) (omega arith)
  where
    d4 : (100 * c + e) / 4 ≡ 25 * c + e / 4
    d4 = omega arith

    d100 : (100 * c + e) / 100 ≡ c
    d100 = omega arith

    d400 : (100 * c + e) / 400 ≡ c / 4
    d400 = omega arith

whole-400 : (q : ℕ) → 400 * q % 400 ≡ 0
whole-400 q = omega arith

mod-100 : (c e : ℕ) → e ≤ 99 → (100 * c + e) % 100 ≡ e
mod-100 c e h = omega arith

past-399 : (y : ℕ) → y % 100 ≡ 0 → (y + 399) % 100 ≡ 99
past-399 y h = omega arith

-- the year whose leap day ends the year s = 100 c + e from March
leap-end : (y c e : ℕ) → y + 399 ≡ 100 * c + e → e ≤ 99 → e % 4 ≡ 3 → (e ≡ 99 → c % 4 ≡ 3) → leap_day y ≡ 1
unfolding leap_day
leap-end y c e s h p q =
    cases (eqb (y % 400) 0) (λ i. rw i) λ i.
    cases (eqb (y % 100) 0)
    (λ j. let g = at-99 (eqb-true (y % 100) 0 j) in absurd (eqb-false (y % 400) 0 i (by-400 g (q g)))) λ j.
    cases (eqb (y % 4) 0) (λ k. rw (i, j, k)) (λ k. absurd (eqb-false (y % 4) 0 k by_4))
  where
    at-99 : y % 100 ≡ 0 → e ≡ 99
    at-99 g = sym (mod-100 c e h) ∙ sym (ap (λ n. n % 100) s) ∙ past-399 y g

    by-400 : e ≡ 99 → c % 4 ≡ 3 → y % 400 ≡ 0
    by-400 g i = let w : y ≡ 400 * (c / 4) = omega arith in rw w (whole-400 (c / 4))

    by_4 : y % 4 ≡ 0
    by_4 = let w : y + 396 ≡ 4 * (25 * c + e / 4) = omega arith in omega arith

century-days : (c : ℕ) → 146097 * c / 4 ≡ 36524 * c + c / 4
century-days c = omega arith

year-days : (e : ℕ) → 1461 * e / 4 ≡ 365 * e + e / 4
year-days e = omega arith

-- r days are left in the century c
record Century (z c r : ℕ) : Type 0 where
  within : 36524 * c + c / 4 + r ≡ z
  short : r ≤ 36524
  last : r ≡ 36524 → c % 4 ≡ 3

century : (z c r : ℕ) → c ≡ (4 * z + 3) / 146097 → r ≡ z - 146097 * c / 4 → Century z c r
century z c r h g = let w : r ≡ z - (36524 * c + c / 4) = g ∙ rw (century-days c) in record { within = omega arith; short = omega arith; last = λ e. omega arith }

-- t days are left in the year e
record Year (r e t : ℕ) : Type 0 where
  within : 365 * e + e / 4 + t ≡ r
  small : e ≤ 99
  short : t ≤ 365
  last : t ≡ 365 → e % 4 ≡ 3
  end : t ≡ 365 → e ≡ 99 → r ≡ 36524

year : (r e t : ℕ) → r ≤ 36524 → e ≡ (4 * r + 3) / 1461 → t ≡ r - 1461 * e / 4 → Year r e t
year r e t b h g =
    let w : t ≡ r - (365 * e + e / 4) = g ∙ rw (year-days e) in
    record { within = omega arith; small = omega arith; short = omega arith; last = λ i. omega arith; end = λ i j. omega arith }

-- the month of a day of the year from March, and its day there, by the formula
abbrev month_of : ℕ → ℕ
month_of t = (5 * t + 2) / 153

abbrev day_in : ℕ → ℕ
day_in t = t - (153 * month_of t + 2) / 5 + 1

record Month (t k : ℕ) : Type 0 where
  within : (153 * k + 2) / 5 ≤ t
  small : k ≤ 11

month : (t k : ℕ) → t ≤ 365 → k ≡ month_of t → Month t k
month t k b h = record { within = omega arith; small = omega arith }

-- it is a day of that month
day-fits : (y t : ℕ) → t < 365 + leap_day y → day_in t ≤ month_days y ((month_of t + 2) % 12 + 1)
unfolding month_days
day-fits y t h = order day_in (λ i. get_or (months (leap_day y)) ((month_of i + 2) % 12 + 1 - 1) 0) (365 + leap_day y) tested t h
  where
    tested : below (ordered day_in (λ i. get_or (months (leap_day y)) ((month_of i + 2) % 12 + 1 - 1) 0)) (365 + leap_day y) ≡ true
    tested = unfold below months in leap-cases (λ l. below (ordered day_in (λ i. get_or (months l) ((month_of i + 2) % 12 + 1 - 1) 0)) (365 + l) ≡ true) y refl refl

low-c : (n c e t : ℕ) → 36524 * c + c / 4 + (365 * e + e / 4) + t ≡ n + 146037 → e ≤ 99 → t ≤ 365 → 3 ≤ c
low-c n c e t w b f = omega arith

low-e : (n e t : ℕ) → 109572 + (365 * e + e / 4) + t ≡ n + 146037 → t ≤ 365 → 99 ≤ e
low-e n e t w f = omega arith

low-k : (t k : ℕ) → 306 ≤ t → k ≡ month_of t → 1 ≤ k / 10
low-k t k b h = omega arith

high-k : (t k : ℕ) → t ≤ 305 → k ≡ month_of t → k / 10 ≡ 0
high-k t k b h = omega arith

high-c : (n c e t : ℕ) → 36524 * c + c / 4 + (365 * e + e / 4) + t ≡ n + 146037 → n < 3652425 → c ≤ 103
high-c n c e t w b = omega arith

high-t : (n t : ℕ) → n < 3652425 → 3761997 + 36159 + t ≡ n + 146037 → t ≤ 305
high-t n t u w = omega arith

-- the year is 0 at least, and the last year at most
from-0 : (n c e t k : ℕ) → 36524 * c + c / 4 + (365 * e + e / 4) + t ≡ n + 146037 → e ≤ 99 → t ≤ 365 → k ≡ month_of t → 400 ≤ 100 * c + e + k / 10
from-0 n c e t k w b f h = go (dec_le 4 c)
  where
    go : Dec (4 ≤ c) → 400 ≤ 100 * c + e + k / 10
    go (yes g) = omega arith
    go (no g) =
        let i : c ≡ 3 = omega (arith, low-c n c e t w b f) in
        let w' : 109572 + (365 * e + e / 4) + t ≡ n + 146037 = rw i at w in
        let j : e ≡ 99 = omega (arith, low-e n e t w' f) in
        let w'' : 109572 + 36159 + t ≡ n + 146037 = rw j at w' in
        omega (arith, low-k t k (omega arith) h)

to-9999 : (n c e t k : ℕ) → n < 3652425 → 36524 * c + c / 4 + (365 * e + e / 4) + t ≡ n + 146037 → e ≤ 99 → k ≤ 11 → k ≡ month_of t → 100 * c + e + k / 10 ≤ 10399
to-9999 n c e t k u w b f h = go (dec_le (100 * c + e) 10398)
  where
    go : Dec (100 * c + e ≤ 10398) → 100 * c + e + k / 10 ≤ 10399
    go (yes g) = omega arith
    go (no g) =
        let i : c ≡ 103 = omega (arith, high-c n c e t w u) in
        let j : e ≡ 99 = omega arith in
        let w' : 36524 * 103 + 103 / 4 + (365 * e + e / 4) + t ≡ n + 146037 = rw i at w in
        let w'' : 3761997 + 36159 + t ≡ n + 146037 = rw j at w' in
        rw (i, j, high-k t k (high-t n t u w'') h) (lit≤ tt)

month-back : (k : ℕ) → k ≤ 11 → ((k + 2) % 12 + 1 + 9) % 12 ≡ k
month-back k h = omega arith

year-back : (s k : ℕ) → k ≤ 11 → 400 ≤ s + k / 10 → s + k / 10 - 400 + 400 - (14 - ((k + 2) % 12 + 1)) / 12 ≡ s
year-back s k h f = omega arith

end-year : (s k : ℕ) → k ≡ 11 → 400 ≤ s + k / 10 → s + k / 10 - 400 + 399 ≡ s
end-year s k p q = omega arith

sums : (n a b g t : ℕ) → a + b + t ≡ n + 146037 → g ≤ t → a + b + g + (t - g + 1) - 146038 ≡ n
sums n a b g t p q = omega arith

at_most : (x y : ℕ) → x ≤ 10399 → y ≡ 9999 → x - 400 ≤ y
at_most x y h e = omega arith

within-12 : (k : ℕ) → (1 ≤ (k + 2) % 12 + 1) × ((k + 2) % 12 + 1 ≤ 12)
within-12 k = omega arith

from-1 : (x : ℕ) → 1 ≤ x + 1
from-1 x = omega arith

at-365 : (t k : ℕ) → t ≡ 365 → k ≡ month_of t → k ≡ 11
at-365 t k e h = rw (h, e)

more-days : (t l : ℕ) → t ≤ 364 → t < 365 + l
more-days t l h = omega arith

pub record DateFound (n y m d : ℕ) : Type 0 where
  pub day : Day y m d
  pub number : before_year y + (before_month y m + (d - 1)) ≡ n

module _ (n c r e t k : ℕ) (in-range : n < 3652425) (hc : c ≡ (4 * (n + 146037) + 3) / 146097) (hr : r ≡ n + 146037 - 146097 * c / 4)
    (he : e ≡ (4 * r + 3) / 1461) (ht : t ≡ r - 1461 * e / 4) (hk : k ≡ month_of t) where
  C : Century (n + 146037) c r
  C = century (n + 146037) c r hc hr

  Y : Year r e t
  Y = year r e t C.short he ht

  M : Month t k
  M = month t k Y.short hk

  whole : 36524 * c + c / 4 + (365 * e + e / 4) + t ≡ n + 146037
  whole = let a = C.within in let b = Y.within in omega arith

  abbrev y : ℕ
  y = 100 * c + e + k / 10 - 400

  abbrev m : ℕ
  m = (k + 2) % 12 + 1

  abbrev d : ℕ
  d = t - (153 * k + 2) / 5 + 1

  low : 400 ≤ 100 * c + e + k / 10
  low = from-0 n c e t k whole Y.small Y.short hk

  number : before_year y + (before_month y m + (d - 1)) ≡ n
  unfolding by_formula from_march
  number =
      let f = (counted y m d (within-12 k).0 (within-12 k).1 (from-1 _)).number in
      sym (rw (year-back (100 * c + e) k M.small low, month-back k M.small, by-century c e Y.small) at f)
      ∙ sums n (36524 * c + c / 4) (365 * e + e / 4) ((153 * k + 2) / 5) t whole M.within

  leap-at : t ≡ 365 → leap_day y ≡ 1
  leap-at g =
      leap-end y c e (end-year (100 * c + e) k (at-365 t k g hk) low) Y.small (Y.last g) (λ j. C.last (Y.end g j))

  in-year : t < 365 + leap_day y
  in-year = go (dec_le t 364)
    where
      go : Dec (t ≤ 364) → t < 365 + leap_day y
      go (yes g) = more-days t (leap_day y) g
      go (no g) = let j : t ≡ 365 = (let s = Y.short in omega arith) in rw (leap-at j, j) (lit≤ tt)

  pub found : DateFound n y m d
  found =
      record {
        day =
            record {
              year = at_most (100 * c + e + k / 10) last_year (to-9999 n c e t k in-range whole Y.small M.small hk) last-year;
              month-from = (within-12 k).0;
              month-to = (within-12 k).1;
              day-from = from-1 (t - (153 * k + 2) / 5);
              day-to = rw (← hk) at (day-fits y t in-year);
            };
        number = number;
      }
