-- Dates and day numbers are each other's inverse, over all days that can be named; and how many these are.
use Prim.Native.Nat.{ℕ, zero, suc, ◌+◌, ◌-◌, ◌*◌, ◌/◌, ◌%◌, ◌≤◌, ◌<◌}
use mathlib.Core.Path.{◌≡◌, refl, ap, sym, ◌∙◌}
use mathlib.Core.Bool.{true}
use mathlib.Core.List.{List, [], ◌∷◌}
use native.Mathlib.Omega.{arith}
use native.Mathlib.Nat.{add-zero, zero-add}
use borrow.Author.Tests.{lt-ltb, le-ltb}
use lib.ListN.{length, get_or, take}
use lib.Dec.{lit≤}
use Rattle.octets.specs.Limits.{last_year}
use Rattle.octets.proofs.Limits.{last-year}
use Rattle.calendar.specs.declared.dates.Date.{Date}
use Rattle.calendar.specs.Gregorian.{leap_day, months, month_days, year_days, is_day, date_on, sum, before_year, before_month, day_number, day_count, in_months, in_years, date_at}
use Rattle.calendar.proofs.Days.{Day, day-tells, day-is, before-year}
use Rattle.calendar.proofs.DateFormula.{DateFound, found}

pub day-count : day_count ≡ 3652425
unfolding day_count
day-count = rw last-year (drop-it (before_year 10000) (before-year 10000))
  where
    drop-it : (b : ℕ) → b + 103 + 145731 ≡ 3798259 → b ≡ 3652425
    drop-it b h = omega arith

-- n days behind the months that l stands before
month-at : (y m i r : ℕ) (ls : List ℕ) → i < length ls → r < get_or ls i 0 → in_months y m ls (sum (take i ls) + r) ≡ date_on y (m + i) (suc r)
unfolding in_months sum
month-at y m i r [] h k = absurd (omega arith)
month-at y m zero r (l ∷ ls) h k = rw (zero-add r, lt-ltb r l k, add-zero m)
month-at y m (suc i) r (l ∷ ls) h k =
    let e : l + sum (take i ls) + r - l ≡ sum (take i ls) + r = omega arith in
    let f : m + suc i ≡ suc m + i = omega arith in
    rw (le-ltb (l + sum (take i ls) + r) l (omega arith), e, f) (month-at y (suc m) i r ls (omega arith) k)

year-here : (k y r : ℕ) → r < year_days y → in_years k y r ≡ in_months y 1 (months (leap_day y)) r
unfolding in_years
year-here zero y r h = refl
year-here (suc k) y r h = rw (lt-ltb r (year_days y) h)

-- the days of j years from y on
years_from : ℕ → ℕ → ℕ
years_from y zero = 0
years_from y (suc j) = year_days y + years_from (suc y) j

years-before : (y j : ℕ) → before_year y + years_from y j ≡ before_year (y + j)
unfolding before_year years_from
years-before y zero = rw (add-zero, add-zero y)
years-before y (suc j) =
    let e : y + suc j ≡ suc y + j = omega arith in
    let f : before_year y + (year_days y + years_from (suc y) j) ≡ before_year y + year_days y + years_from (suc y) j = omega arith in
    f ∙ years-before (suc y) j ∙ ap before_year (sym e)

year-at : (k y j r : ℕ) → j ≤ k → r < year_days (y + j) → in_years k y (years_from y j + r) ≡ in_months (y + j) 1 (months (leap_day (y + j))) r
unfolding in_years years_from
year-at k y zero r h l = rw (zero-add r, add-zero y) (year-here k y r (rw (add-zero y) at l))
year-at zero y (suc j) r h l = absurd (omega arith)
year-at (suc k) y (suc j) r h l =
    let e : year_days y + years_from (suc y) j + r - year_days y ≡ years_from (suc y) j + r = omega arith in
    let f : y + suc j ≡ suc y + j = omega arith in
    rw (le-ltb (year_days y + years_from (suc y) j + r) (year_days y) (omega arith), e, f) (year-at k (suc y) j r (omega arith) (rw f at l))

pub sum_step : (xs : List ℕ) (i j : ℕ) → i < j → sum (take i xs) + get_or xs i 0 ≤ sum (take j xs)
unfolding sum
sum_step xs i zero h = absurd (omega arith)
sum_step [] zero (suc j) h = omega arith
sum_step [] (suc i) (suc j) h = omega arith
sum_step (x ∷ xs) zero (suc j) h = omega arith
sum_step (x ∷ xs) (suc i) (suc j) h = omega (arith, sum_step xs i j (omega arith))

pub all-months : (l : ℕ) → sum (take 12 (months l)) ≡ 365 + l
unfolding sum months
all-months l = omega arith

-- a day lies within its year
within : (y m d : ℕ) → Day y m d → before_month y m + (d - 1) < year_days y
unfolding before_month year_days month_days
within y m d h =
    let s = sum_step (months (leap_day y)) (m - 1) 12 (less m h.month-from h.month-to) in
    less-than _ _ d _ (rw (all-months (leap_day y)) at s) h.day-from h.day-to
  where
    less : (m : ℕ) → 1 ≤ m → m ≤ 12 → m - 1 < 12
    less m p q = omega arith

    less-than : (a g d t : ℕ) → a + g ≤ t → 1 ≤ d → d ≤ g → a + (d - 1) < t
    less-than a g d t p q r = omega arith

-- a day of a year, and that year among all
day-at : (y m d : ℕ) → Day y m d → in_months y 1 (months (leap_day y)) (before_month y m + (d - 1)) ≡ date_on y m d
unfolding before_month
day-at y m d h =
    let at = month-at y 1 (m - 1) (d - 1) (months (leap_day y)) (unfold months in omega (arith, h.month-from, h.month-to)) (unfold month_days in below d _ h.day-from h.day-to) in
    rw (up m h.month-from, down d h.day-from) at at
  where
    below : (d l : ℕ) → 1 ≤ d → d ≤ l → d - 1 < l
    below d l p q = omega arith

    up : (m : ℕ) → 1 ≤ m → 1 + (m - 1) ≡ m
    up m p = omega arith

    down : (d : ℕ) → 1 ≤ d → suc (d - 1) ≡ d
    down d p = omega arith

-- whole cycles of 400 years, of 146097 days each, before the j years of another
by-100 : (c j : ℕ) → (c * 400 + j + 399) / 100 ≡ c * 4 + (j + 399) / 100
by-100 c j = omega arith

by_4 : (c j : ℕ) → (c * 400 + j + 399) / 4 ≡ c * 100 + (j + 399) / 4
by_4 c j = omega arith

by-400 : (c j : ℕ) → (c * 400 + j + 399) / 400 ≡ c + (j + 399) / 400
by-400 c j = omega arith

cycles : (c j : ℕ) → before_year (c * 400 + j) ≡ c * 146097 + before_year j
cycles c j =
    let a = rw (by-100 c j, by_4 c j, by-400 c j) at (before-year (c * 400 + j)) in
    sums c j _ _ _ _ _ a (before-year j)
  where
    sums : (c j b d x y z : ℕ) → b + (c * 4 + x) + 145731 ≡ 365 * (c * 400 + j + 399) + (c * 100 + y) + (c + z) → d + x + 145731 ≡ 365 * (j + 399) + y + z → b ≡ c * 146097 + d
    sums c j b d x y z p q = omega arith

-- later years begin later
pub year-order : (y z : ℕ) → y ≤ z → before_year y ≤ before_year z
year-order y z h = let e : y + (z - y) ≡ z = omega arith in rw e at (more _ _ _ (years-before y (z - y)))
  where
    more : (a b c : ℕ) → a + b ≡ c → a ≤ c
    more a b c e = omega arith

-- a day of a cycle's year lies within the cycle
in-cycle : (j r : ℕ) → j < 400 → r < year_days j → before_year j + r < 146097
unfolding before_year
in-cycle j r h l = less (before_year j) (year_days j) r (before_year 400) (year-order (suc j) 400 h) (cycles 1 0) l
  where
    less : (b w r n : ℕ) → b + w ≤ n → n ≡ 146097 → r < w → b + r < 146097
    less b w r n p q l = omega arith

-- a cycle's years are as long as those of the first
leap-cycle : (c j : ℕ) → leap_day (c * 400 + j) ≡ leap_day j
unfolding leap_day
leap-cycle c j = rw (m400 c j, m100 c j, m4 c j)
  where
    m400 : (c j : ℕ) → (c * 400 + j) % 400 ≡ j % 400
    m400 c j = omega arith

    m100 : (c j : ℕ) → (c * 400 + j) % 100 ≡ j % 100
    m100 c j = omega arith

    m4 : (c j : ℕ) → (c * 400 + j) % 4 ≡ j % 4
    m4 c j = omega arith

year-in : (c j r : ℕ) → j < 400 → r < year_days j → r < year_days (c * 400 + j) → date_at (before_year (c * 400 + j) + r) ≡ in_months (c * 400 + j) 1 (months (leap_day (c * 400 + j))) r
unfolding date_at
year-in c j r h l k =
    let b = in-cycle j r h l in
    let e : before_year (c * 400 + j) + r ≡ c * 146097 + (before_year j + r) = rw (cycles c j) (omega arith) in
    let f : years_from (c * 400) j ≡ before_year j = rest c _ _ _ _ (start c) (years-before (c * 400) j) (cycles c j) in
    rw (e, quotient c _ b, remainder c _ b) (rw f at (year-at 399 (c * 400) j r (omega arith) k))
  where
    start : (c : ℕ) → before_year (c * 400) ≡ c * 146097
    start c = let z : c * 400 + 0 ≡ c * 400 = omega arith in rw z at (cycles c 0) ∙ (unfold before_year in omega arith)

    rest : (c a y b d : ℕ) → a ≡ c * 146097 → a + y ≡ b → b ≡ c * 146097 + d → y ≡ d
    rest c a y b d p q s = omega arith

    quotient : (c n : ℕ) → n < 146097 → (c * 146097 + n) / 146097 ≡ c
    quotient c n h = omega arith

    remainder : (c n : ℕ) → n < 146097 → (c * 146097 + n) % 146097 ≡ n
    remainder c n h = omega arith

year-among : (y r : ℕ) → r < year_days y → date_at (before_year y + r) ≡ in_months y 1 (months (leap_day y)) r
unfolding year_days
year-among y r l =
    let e : y / 400 * 400 + y % 400 ≡ y = omega arith in
    let k : r < 365 + leap_day (y / 400 * 400 + y % 400) = rw e l in
    rw e at (year-in (y / 400) (y % 400) r (omega arith) (rw (leap-cycle (y / 400) (y % 400)) at k) k)

pub date-back : (d : Date) → is_day d.year d.month d.day ≡ true → date_at (day_number d) ≡ d
unfolding day_number
date-back d h =
    let f = day-tells d.year d.month d.day h in
    year-among d.year _ (within d.year d.month d.day f) ∙ day-at d.year d.month d.day f

-- the formula gives the date of a day number
pub formula-date : (n y m d : ℕ) → DateFound n y m d → date_at n ≡ date_on y m d
unfolding day_number
formula-date n y m d f = ap date_at (sym f.number) ∙ date-back (date_on y m d) (day-is f.day)

pub record Named (n : ℕ) : Type 0 where
  pub number : day_number (date_at n) ≡ n
  pub day : is_day (date_at n).year (date_at n).month (date_at n).day ≡ true

named_by : (n y m d : ℕ) → DateFound n y m d → Named n
unfolding day_number
named_by n y m d f = let e = formula-date n y m d f in record { number = rw e f.number; day = rw e (day-is f.day) }

pub number-back : (n : ℕ) → n < day_count → Named n
number-back n h = named_by n _ _ _ (found n _ _ _ _ _ (rw day-count at h) refl refl refl refl refl)

-- the first day and the last
pub first-date : date_on 0 1 1 ≡ date_at 0
first-date = sym (formula-date 0 _ _ _ (found 0 _ _ _ _ _ (lit≤ tt) refl refl refl refl refl))

pub last-date : date_on 9999 12 31 ≡ date_at (day_count - 1)
last-date = rw day-count (sym (formula-date 3652424 _ _ _ (found 3652424 _ _ _ _ _ (lit≤ tt) refl refl refl refl refl)))

-- a day's number is one of the days that can be named
pub number_small : (d : Date) → is_day d.year d.month d.day ≡ true → day_number d < day_count
unfolding day_number day_count years_from
number_small d h =
    let f = day-tells d.year d.month d.day h in
    let e : d.year + suc (last_year - d.year) ≡ suc last_year = up d.year last_year f.year in
    let t = years-before d.year (suc (last_year - d.year)) ∙ ap before_year e in
    below _ _ _ _ _ t (within d.year d.month d.day f)
  where
    up : (y l : ℕ) → y ≤ l → y + suc (l - y) ≡ suc l
    up y l h = omega arith

    below : (b r w m t : ℕ) → b + (w + m) ≡ t → r < w → b + r < t
    below b r w m t p q = omega arith
