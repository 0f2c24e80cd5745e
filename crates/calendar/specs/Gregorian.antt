-- The Gregorian calendar from 0000-01-01 to 9999-12-31 (RFC 5545 3.3.4; 01, Values and The stop list).
use Rattle.std.specs.Prelude.{ℕ, zero, suc, ◌+◌, ◌-◌, ◌*◌, ◌/◌, ◌%◌, Bool, List, [], ◌∷◌, eqb, ltb, leb, get_or, take}
use Rattle.octets.specs.Basics.{pick, ◌and◌}
use Rattle.octets.specs.Classes.{between}
use Rattle.octets.specs.Limits.{last_year}
use Rattle.calendar.specs.declared.dates.Date.{Date}

-- 1 in a leap year, else 0: every fourth year, but of the hundredth years only every fourth; year 0000 is one
unfoldable pub leap_day : ℕ → ℕ
leap_day y = pick (eqb (y % 400) 0) 1 (pick (eqb (y % 100) 0) 0 (pick (eqb (y % 4) 0) 1 0))

-- the lengths of the months from January on, with l days more in February
unfoldable pub months : ℕ → List ℕ
months l = 31 ∷ (28 + l) ∷ 31 ∷ 30 ∷ 31 ∷ 30 ∷ 31 ∷ 31 ∷ 30 ∷ 31 ∷ 30 ∷ 31 ∷ []

unfoldable pub month_days : ℕ → ℕ → ℕ
month_days y m = get_or (months (leap_day y)) (m - 1) 0

unfoldable pub year_days : ℕ → ℕ
year_days y = 365 + leap_day y

unfoldable pub is_day : ℕ → ℕ → ℕ → Bool
is_day y m d = leb y last_year and between 1 12 m and between 1 (month_days y m) d

abbrev pub date_on : ℕ → ℕ → ℕ → Date
date_on y m d = record { year = y; month = m; day = d }

-- days of the years before y
unfoldable pub before_year : ℕ → ℕ
before_year zero = 0
before_year (suc y) = before_year y + year_days y

unfoldable pub sum : List ℕ → ℕ
sum [] = 0
sum (x ∷ xs) = x + sum xs

-- days of the year's months before m
unfoldable pub before_month : ℕ → ℕ → ℕ
before_month y m = sum (take (m - 1) (months (leap_day y)))

-- the days from 0000-01-01 to a date
unfoldable pub day_number : Date → ℕ
day_number d = before_year d.year + (before_month d.year d.month + (d.day - 1))

-- the days that can be named
unfoldable pub day_count : ℕ
day_count = before_year (suc last_year)

-- n days from the first of the month m of the year y on, whose length and those of the months behind it are given
unfoldable pub in_months : ℕ → ℕ → List ℕ → ℕ → Date
in_months y m [] n = date_on y m (suc n)
in_months y m (l ∷ ls) n = let later = in_months y (suc m) ls (n - l) in pick (ltb n l) (date_on y m (suc n)) later

-- n days from the first day of the year y on, within the k years from y on
unfoldable pub in_years : ℕ → ℕ → ℕ → Date
in_years zero y n = in_months y 1 (months (leap_day y)) n
in_years (suc k) y n = let later = in_years k (suc y) (n - year_days y) in pick (ltb n (year_days y)) (in_months y 1 (months (leap_day y)) n) later

-- the date of a day number; the calendar repeats itself every 400 years, which have 146097 days
unfoldable pub date_at : ℕ → Date
date_at n = in_years 399 (n / 146097 * 400) (n % 146097)

-- the months from 0000-01 to a date's month
unfoldable pub month_number : Date → ℕ
month_number d = d.year * 12 + (d.month - 1)

-- the weekday of a day number, from Monday, 0, to Sunday, 6; 0000-01-01 is a Saturday
unfoldable pub weekday_at : ℕ → ℕ
weekday_at n = (n + 5) % 7

-- the number of a day's week, where weeks begin on the weekday w; the first may begin before 0000-01-01
unfoldable pub week_at : ℕ → ℕ → ℕ
week_at w n = (n + 5 + (7 - w)) / 7
