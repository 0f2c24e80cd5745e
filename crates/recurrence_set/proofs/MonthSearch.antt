-- Months of day numbers: they rise with the days; which days a month has, which of them meet a monthly rule, and the search through months.
use Prim.Native.Nat.{ℕ, suc, ◌+◌, ◌-◌, ◌*◌, ◌/◌, ◌%◌, ◌^◌, ◌≤◌, ◌<◌}
use mathlib.Core.Path.{◌≡◌, refl, sym, ap, ◌∙◌}
use mathlib.Core.Bool.{true, false}
use native.Mathlib.Omega.{arith}
use native.Mathlib.Nat.{mod-lt, add-mod_right, lt_of_le_of_lt}
use native.Mathlib.Decide.{dec_le}
use borrow.Author.Tests.{lt-ltb, le-ltb, ltb-true, ltb-false, eqb-true}
use lib.Dec.{eqb}
use lib.Pow.{shr_le}
use mathlib.Core.List.{[]}
use mathlib.Core.Option.{none, some}
use Rattle.std.specs.declared.option.Option as code
use lib.Dec.{ltb}
use Rattle.octets.specs.Basics.{◌and◌}
use Rattle.octets.specs.Optional.{when}
use Rattle.octets.proofs.Optional.{when-is}
use Rattle.calendar.proofs.Hours.{none-when}
use Rattle.calendar.specs.declared.dates.Month.{Month}
use Rattle.octets.proofs.Cases.{both, never, and-false-right}
use Rattle.octets.proofs.Limits.{last-year}
use Rattle.calendar.specs.Gregorian.{leap_day, months, month_days, year_days, date_on, before_year, before_month, day_number, day_count, date_at, month_number, weekday_at}
use Rattle.calendar.specs.Answers.{month_count, month_at}
use Rattle.calendar.specs.Sets.{has}
use Rattle.calendar.specs.declared.dates.Date.{Date}
use Rattle.calendar.specs.declared.rules.Rule.{Rule}
use Rattle.calendar.proofs.Days.{Day, day-tells, day-is, month-bounds}
use Rattle.calendar.proofs.Inverse.{sum_step, all-months, year-order, date-back, number-back, number_small}
use Rattle.calendar.proofs.Months.{month-count, first-day}
use Rattle.recurrence_set.specs.Lists.{due}
use Rattle.recurrence_set.specs.Meets.{counts, ordinal_serves, day_serves, monthly_meets}
use Rattle.recurrence_set.specs.Searches.{First, NextOf, Least, MarksOnly, serves_in_month, names_none, month_first, Counting}
use Rattle.recurrence_set.proofs.Places.{date-said, date-within}
use Rattle.recurrence_set.proofs.Due.{past as none-behind, skip as jump, first-at, next-after, first-none, nothing-next}
use Rattle.recurrence_set.proofs.Every.{counts-here, counts-not, counts-between, counts-next}
use Rattle.calendar.proofs.SetLaws.{has-none}
use Rattle.recurrence_set.proofs.SetBits.{has-shr, has-mod, has_above, least-below}

-- a month ends before the next begins, within the year and in a later one
month-month : (y m n : ℕ) → 1 ≤ m → m < n → before_month y m + month_days y m ≤ before_month y n
unfolding before_month month_days
month-month y m n p h = sum_step (months (leap_day y)) (m - 1) (n - 1) (omega arith)

month-year : (y m : ℕ) → 1 ≤ m → m ≤ 12 → before_month y m + month_days y m ≤ year_days y
unfolding before_month month_days year_days
month-year y m p q = rw (all-months (leap_day y)) at (sum_step (months (leap_day y)) (m - 1) 12 (omega arith))

-- days of a later month are later
module _ (d e : Date) (p : Day d.year d.month d.day) (q : Day e.year e.month e.day) where
  in-year : d.year ≡ e.year → d.month < e.month → day_number d < day_number e
  unfolding day_number
  in-year s h = rw s (below _ _ _ _ _ _ p.day-from (rw s at p.day-to) (month-month e.year d.month e.month p.month-from h))
    where
      below : (y b g m n k : ℕ) → 1 ≤ n → n ≤ g → b + g ≤ m → y + (b + (n - 1)) < y + (m + (k - 1))
      below y b g m n k u v w = omega arith

  in-years : d.year < e.year → day_number d < day_number e
  unfolding day_number
  in-years h =
      below _ _ _ _ _ _ _ p.day-from p.day-to (month-year d.year d.month p.month-from p.month-to)
      (unfold before_year in year-order (suc d.year) e.year h)
    where
      below : (y b g w z n k : ℕ) → 1 ≤ n → n ≤ g → b + g ≤ w → y + w ≤ z → y + (b + (n - 1)) < z + k
      below y b g w z n k u v t s = omega arith

  later-month : month_number d < month_number e → day_number d < day_number e
  unfolding month_number
  later-month h = go (dec_le e.year d.year)
    where
      go : Dec (e.year ≤ d.year) → day_number d < day_number e
      go (yes y) =
          let s : d.year ≡ e.year = same _ _ _ _ p.month-from p.month-to q.month-from q.month-to y h in
          in-year s (rest _ _ _ _ s h)
        where
          same : (a b m n : ℕ) → 1 ≤ m → m ≤ 12 → 1 ≤ n → n ≤ 12 → b ≤ a → a * 12 + (m - 1) < b * 12 + (n - 1) → a ≡ b
          same a b m n u v w x y z = omega arith

          rest : (a b m n : ℕ) → a ≡ b → a * 12 + (m - 1) < b * 12 + (n - 1) → m < n
          rest a b m n s z = omega arith
      go (no n) = in-years (omega arith)

-- the month of a day number
module _ (k : ℕ) (h : k < day_count) where
  named : Day (date_at k).year (date_at k).month (date_at k).day
  named = day-tells _ _ _ (number-back k h).day

  pub month-last : month_number (date_at k) < 120000
  unfolding month_number
  month-last = let n = named in small _ _ (rw last-year at n.year) n.month-from n.month-to
    where
      small : (y m : ℕ) → y ≤ 9999 → 1 ≤ m → m ≤ 12 → y * 12 + (m - 1) < 120000
      small y m p q r = omega arith

  pub day-range : (1 ≤ (date_at k).day) × ((date_at k).day ≤ 31)
  day-range =
      let n = named in
      let s = (month-bounds (date_at k).year (date_at k).month n.month-from n.month-to).1 in
      let t = n.day-to in
      (n.day-from, order _ _ t s)
    where
      order : (d l : ℕ) → d ≤ l → l ≤ 31 → d ≤ 31
      order d l p q = omega arith

-- the first day of the month i, and its length
abbrev first_of : ℕ → Date
first_of i = date_on (i / 12) (i % 12 + 1) 1

abbrev pub length_of : ℕ → ℕ
length_of i = month_days (i / 12) (i % 12 + 1)

first-month : (i : ℕ) → month_number (first_of i) ≡ i
unfolding month_number
first-month i = omega arith

pub length-short : (i : ℕ) → length_of i ≤ 31
length-short i = (month-bounds (i / 12) (i % 12 + 1) (omega arith) (omega arith)).1

pub month-first : (i : ℕ) → i < 120000 → month_first i ≡ day_number (first_of i)
unfolding month_first month_at
month-first i h = rw (month-count, lt-ltb i 120000 h)

pub month-behind : (i : ℕ) → 120000 ≤ i → month_first i ≡ day_count
unfolding month_first
month-behind i h = rw (month-count, le-ltb i 120000 h)

-- a date of the month i: where it stands in the month
module _ (i : ℕ) (d : Date) (p : Day d.year d.month d.day) (e : month_number d ≡ i) where
  same-year : i / 12 ≡ d.year
  unfolding month_number
  same-year = year i d.year d.month p.month-from p.month-to e
    where
      year : (i y m : ℕ) → 1 ≤ m → m ≤ 12 → y * 12 + (m - 1) ≡ i → i / 12 ≡ y
      year i y m u v w = omega arith

  same-month : i % 12 + 1 ≡ d.month
  unfolding month_number
  same-month = month i d.year d.month p.month-from p.month-to e
    where
      month : (i y m : ℕ) → 1 ≤ m → m ≤ 12 → y * 12 + (m - 1) ≡ i → i % 12 + 1 ≡ m
      month i y m u v w = omega arith

  from_first : day_number d ≡ day_number (first_of i) + (d.day - 1)
  unfolding day_number
  from_first = rw (same-year, same-month) (sums _ _ d.day)
    where
      sums : (a b d : ℕ) → a + (b + (d - 1)) ≡ a + (b + (1 - 1)) + (d - 1)
      sums a b d = omega arith

  day-within : d.day ≤ length_of i
  day-within = rw (same-year, same-month) p.day-to

-- a day lies before the month i just where its month does
pub month-below : (i k : ℕ) → k < day_count → k < month_first i → month_number (date_at k) < i
month-below i k l u = go (dec_le 120000 i)
  where
    go : Dec (120000 ≤ i) → month_number (date_at k) < i
    go (yes h) = let m = month-last k l in omega arith
    go (no h) = at (dec_le i (month_number (date_at k)))
      where
        s : i < 120000
        s = omega arith

        f : k < day_number (first_of i)
        f = rw (month-first i s) at u

        at : Dec (i ≤ month_number (date_at k)) → month_number (date_at k) < i
        at (no n) = omega arith
        at (yes y) = absurd (here (dec_le (month_number (date_at k)) i))
          where
            here : Dec (month_number (date_at k) ≤ i) → ⊥
            here (yes z) = let g = f in let w = sym (number-back k l).number ∙ from_first i (date_at k) (named k l) (omega arith) in omega arith
            here (no z) =
                let g = f in
                let w : day_number (first_of i) < k = rw (number-back k l).number at (later-month (first_of i) (date_at k) (first-day i s) (named k l) (rw (first-month i) (omega arith))) in
                omega arith

pub month-from : (i k : ℕ) → k < day_count → month_first i ≤ k → i ≤ month_number (date_at k)
month-from i k l u = go (dec_le 120000 i)
  where
    go : Dec (120000 ≤ i) → i ≤ month_number (date_at k)
    go (yes h) = let w = rw (month-behind i h) at u in absurd (omega arith)
    go (no h) = at (dec_le i (month_number (date_at k)))
      where
        s : i < 120000
        s = omega arith

        at : Dec (i ≤ month_number (date_at k)) → i ≤ month_number (date_at k)
        at (yes y) = y
        at (no n) =
            let w : k < day_number (first_of i) = rw (number-back k l).number at (later-month (date_at k) (first_of i) (named k l) (first-day i s) (rw (first-month i) (omega arith))) in
            let v : day_number (first_of i) ≤ k = rw (month-first i s) at u in
            absurd (omega arith)

-- months of days rise, and so do first days of months
pub month-order : (a k : ℕ) → a ≤ k → k < day_count → month_number (date_at a) ≤ month_number (date_at k)
month-order a k l h = go (dec_le (month_number (date_at a)) (month_number (date_at k)))
  where
    go : Dec (month_number (date_at a) ≤ month_number (date_at k)) → month_number (date_at a) ≤ month_number (date_at k)
    go (yes y) = y
    go (no n) =
        let g : a < day_count = omega arith in
        let w : k < a = rw ((number-back k h).number, (number-back a g).number) at (later-month (date_at k) (date_at a) (named k h) (named a g) (omega arith)) in
        absurd (omega arith)

first_small : (i : ℕ) → month_first i ≤ day_count
first_small i = go (dec_le 120000 i)
  where
    go : Dec (120000 ≤ i) → month_first i ≤ day_count
    go (yes h) = rw (month-behind i h) (omega arith)
    go (no h) =
        let s : i < 120000 = omega arith in
        let t = number_small (first_of i) (day-is (first-day i s)) in
        rw (month-first i s) (omega arith)

pub first-order : (i j : ℕ) → i ≤ j → month_first i ≤ month_first j
first-order i j l = go (dec_le 120000 j)
  where
    go : Dec (120000 ≤ j) → month_first i ≤ month_first j
    go (yes h) = rw (month-behind j h) (first_small i)
    go (no h) = at (dec_le j i)
      where
        s : j < 120000
        s = omega arith

        t : i < 120000
        t = omega arith

        at : Dec (j ≤ i) → month_first i ≤ month_first j
        at (yes g) = let e : i ≡ j = omega arith in rw e (omega arith)
        at (no g) =
            let w = later-month (first_of i) (first_of j) (first-day i t) (first-day j s) (rw (first-month i, first-month j) (omega arith)) in
            rw (month-first i t, month-first j s) (omega arith)

-- a day of the month i
pub record InMonth (i k : ℕ) : Type 0 where
  pub from : month_first i ≤ k
  pub within : k < month_first i + length_of i
  pub date : date_at k ≡ date_on (i / 12) (i % 12 + 1) (k - month_first i + 1)

pub of-month : (i k : ℕ) → k < day_count → month_number (date_at k) ≡ i → InMonth i k
of-month i k l e =
    let p = named k l in
    let s : i < 120000 = rw e at (month-last k l) in
    let n : k ≡ month_first i + ((date_at k).day - 1) = rw (month-first i s) (sym (number-back k l).number ∙ from_first i (date_at k) p e) in
    let u = p.day-from in
    let w = day-within i (date_at k) p e in
    record {
      from = first _ _ _ n;
      within = less _ _ _ _ n u w;
      date = ap (λ (x : ℕ). date_on x (date_at k).month (date_at k).day) (sym (same-year i (date_at k) p e))
          ∙ ap (λ (x : ℕ). date_on (i / 12) x (date_at k).day) (sym (same-month i (date_at k) p e))
          ∙ ap (λ (x : ℕ). date_on (i / 12) (i % 12 + 1) x) (day _ _ _ n u);
    }
  where
    first : (k f d : ℕ) → k ≡ f + (d - 1) → f ≤ k
    first k f d e = omega arith

    less : (k f d l : ℕ) → k ≡ f + (d - 1) → 1 ≤ d → d ≤ l → k < f + l
    less k f d l e p q = omega arith

    day : (k f d : ℕ) → k ≡ f + (d - 1) → 1 ≤ d → d ≡ k - f + 1
    day k f d e p = omega arith

-- the days of a month lie in it
module _ (i j : ℕ) (h : i < 120000) (l : j < length_of i) where
  abbrev day_in : Date
  day_in = date_on (i / 12) (i % 12 + 1) (j + 1)

  day-there : Day (i / 12) (i % 12 + 1) (j + 1)
  day-there = let f = first-day i h in record { year = f.year; month-from = f.month-from; month-to = f.month-to; day-from = omega arith; day-to = up _ l }
    where
      up : (g : ℕ) → j < g → j + 1 ≤ g
      up g p = omega arith

  day-month : month_number day_in ≡ i
  unfolding month_number
  day-month = omega arith

  day-number : day_number day_in ≡ month_first i + j
  day-number =
      let f = from_first i day_in day-there day-month in
      rw (month-first i h) (f ∙ back _)
    where
      back : (a : ℕ) → a + (j + 1 - 1) ≡ a + j
      back a = omega arith

  pub in-month : (month_first i + j < day_count) × (month_number (date_at (month_first i + j)) ≡ i)
  in-month =
      (rw day-number at (number_small day_in (day-is day-there)), ap (λ (k : ℕ). month_number (date_at k)) (sym day-number) ∙ ap month_number (date-back day_in (day-is day-there)) ∙ day-month)

-- what the code is told of a month
pub record MonthIs (i : ℕ) (m : Month) : Type 0 where
  pub small : i < 120000
  pub first : m.first ≡ month_first i
  pub days : m.days ≡ length_of i

module _ (i : ℕ) (m : Month) where
  first_said : month_at i ≡ m → m.first ≡ day_number (first_of i)
  unfolding month_at
  first_said q = ap (λ (x : Month). x.first) (sym q)

  days-said : month_at i ≡ m → m.days ≡ length_of i
  unfolding month_at
  days-said q = ap (λ (x : Month). x.days) (sym q)

  pub month-said : some m ≡ when (ltb i month_count) (month_at i) → MonthIs i m
  month-said e =
      let w = when-is (ltb i month_count) (month_at i) m (sym e) in
      let s : i < 120000 = rw month-count at (ltb-true i month_count w.0) in
      record { small = s; first = rw (month-first i s) (first_said w.1); days = days-said w.1 }

pub month-past : (i : ℕ) → none ≡ when (ltb i month_count) (month_at i) → 120000 ≤ i
month-past i e = rw month-count at (ltb-false i month_count (none-when _ _ e))

-- the test of a monthly rule on the day k, whose month counts or does not
module _ (r : Rule) (e : Date) (k : ℕ) (l : k < day_count) where
  monthly-is : monthly_meets r e k
      ≡ (counts r.interval (month_number (date_at k) - month_number e) and day_serves r e.day (month_days (date_at k).year (date_at k).month) (date_at k).day ((k + 5) % 7))
  unfolding monthly_meets weekday_at
  monthly-is = refl

  fails-month : counts r.interval (month_number (date_at k) - month_number e) ≡ false → monthly_meets r e k ≡ false
  fails-month f = monthly-is ∙ rw f

  meets-in : (i : ℕ) → month_number (date_at k) ≡ i → (i - month_number e) % r.interval ≡ 0
      → monthly_meets r e k ≡ serves_in_month r e.day (length_of i) ((month_first i + 5) % 7) (k - month_first i)
  unfolding serves_in_month
  meets-in i n o =
      let m = of-month i k l n in
      monthly-is ∙ rw (n, counts-here r.interval (i - month_number e) o, m.date, weekday k (month_first i) m.from)
    where
      weekday : (k f : ℕ) → f ≤ k → (k + 5) % 7 ≡ (k - f + (f + 5) % 7) % 7
      weekday k f h = omega arith

  -- between two months that count
  meets-not : (i : ℕ) → Counting r e i → 1 ≤ r.interval → i < month_number (date_at k) → month_number (date_at k) < i + r.interval → monthly_meets r e k ≡ false
  meets-not i c p x y =
      let o = c.counts in
      let f = c.from in
      fails-month (counts-between r.interval (i - month_number e) (month_number (date_at k) - month_number e) p (omega arith) (omega arith))

counted : (i x : ℕ) → counts i x ≡ true → x % i ≡ 0
unfolding counts
counted i x t = eqb-true (x % i) 0 t

-- the next month that counts
counting-on : (r : Rule) (e : Date) (i : ℕ) → Counting r e i → Counting r e (i + r.interval)
counting-on r e i c =
    let f = c.from in
    let q : i + r.interval - month_number e ≡ i - month_number e + r.interval = omega arith in
    record { from = omega arith; counts = ap (λ (n : ℕ). n % r.interval) q ∙ add-mod_right (i - month_number e) r.interval ∙ c.counts }

-- the search from a month and so many days on is now at another
pub record Searched (r : Rule) (e : Date) (places month skip at past : ℕ) : Type 0 where
  pub counting : Counting r e at
  pub room : month_first at + past ≤ month_first (at + 1)
  pub from : month_first month + skip ≤ month_first at + past
  pub same : due (monthly_meets r e) places (month_first month + skip) ≡ due (monthly_meets r e) places (month_first at + past)

-- the same of any start on the day v of its month
abbrev pub Searching : Rule → ℕ → ℕ → ℕ → ℕ → ℕ → ℕ → Type 0
Searching r month skip places v at past = (e : Date) → e.day ≡ v → places ≤ day_count → Counting r e month
    → month_first month + skip ≤ month_first (month + 1) → Searched r e places month skip at past

pub search-begins : (r : Rule) (month skip places v : ℕ) → Searching r month skip places v month skip
search-begins r month skip places v e d q c h = record { counting = c; room = h; from = omega arith; same = refl }

module _ (r : Rule) (e : Date) (places month skip at past : ℕ) (s : Searched r e places month skip at past) where
  -- what is found from here on was to be found
  found : (n : ℕ) → First (monthly_meets r e) places (month_first at + past) n → First (monthly_meets r e) places (month_first month + skip) n
  found n f = let x = s.from in let y = f.from in record { from = omega arith; same = s.same ∙ f.same; passes = f.passes }

  pub search-past : 120000 ≤ at → places ≤ day_count → due (monthly_meets r e) places (month_first month + skip) ≡ []
  search-past h q = s.same ∙ none-behind _ places (month_first at + past) (rw (month-behind at h) (omega arith))

  module _ (f l : ℕ) (small : at < 120000) (first : f ≡ month_first at) (days : l ≡ length_of at) where
    pub search-ends : places ≤ f + past → due (monthly_meets r e) places (month_first month + skip) ≡ []
    search-ends h = s.same ∙ none-behind _ places (month_first at + past) (rw first at h)

    -- the days of the month that serve
    module _ (v : ℕ) (day : e.day ≡ v) (set : ℕ) (m : MarksOnly l (serves_in_month r v l ((f + 5) % 7)) set) (q : places ≤ day_count) (p : 1 ≤ r.interval) where
      in-set : (k : ℕ) → k < day_count → month_number (date_at k) ≡ at → monthly_meets r e k ≡ has set (k - month_first at)
      in-set k d n =
          let w = of-month at k d n in
          let x : k - month_first at < l = rw days (less _ _ _ w.from w.within) in
          meets-in r e k d at n s.counting.counts ∙ sym (rw (first, days, ← day) at (m.days (k - month_first at) x))
        where
          less : (k f l : ℕ) → f ≤ k → k < f + l → k - f < l
          less k f l x y = omega arith

      moved : (k : ℕ) → month_first at + past ≤ k → has (set / 2 ^ past) (k - month_first at - past) ≡ has set (k - month_first at)
      moved k h = let g : k - month_first at - past + past ≡ k - month_first at = omega arith in has-shr set past (k - month_first at - past) ∙ ap (has set) g

      pub search-on : set / 2 ^ past ≡ 0 → Searched r e places month skip (at + r.interval) 0
      search-on z =
          let y = s.from in
          let x = s.room in
          let g : month_first (at + 1) ≤ month_first (at + r.interval) = first-order (at + 1) (at + r.interval) (omega arith) in
          record {
            counting = counting-on r e at s.counting;
            room = (let o = first-order (at + r.interval) (at + r.interval + 1) (omega arith) in omega arith);
            from = omega arith;
            same = s.same ∙ jump (monthly_meets r e) places (month_first at + past) (month_first (at + r.interval) + 0) (omega arith) (λ k h u v. jumped k h u v);
          }
        where
          jumped : (k : ℕ) → month_first at + past ≤ k → k < month_first (at + r.interval) + 0 → k < places → monthly_meets r e k ≡ false
          jumped k h u v = go (dec_le (month_number (date_at k)) at)
            where
              d : k < day_count
              d = omega arith

              go : Dec (month_number (date_at k) ≤ at) → monthly_meets r e k ≡ false
              go (yes j) =
                  let b : at ≤ month_number (date_at k) = month-from at k d (omega arith) in
                  in-set k d (omega arith) ∙ sym (moved k h) ∙ rw z (has-none (k - month_first at - past))
              go (no j) = meets-not r e k d at s.counting p (omega arith) (month-below (at + r.interval) k d (omega arith))

      pub search-finds : (n : ℕ) → Least (set / 2 ^ past) n → (set / 2 ^ past ≡ 0 → ⊥) → First (monthly_meets r e) places (month_first month + skip) (f + past + n)
      search-finds n least filled =
          rw first (found (month_first at + past + n) (first-at _ places (month_first at + past) (month_first at + past + n) (omega arith)
          (λ k x y z. let h = within in let g : k - month_first at < l = omega arith in in-set k (in-here k (omega arith) g).0 (in-here k (omega arith) g).1 ∙ sym (moved k x) ∙ least.none _ (omega arith))
          (let h = within in let g : month_first at + past + n - month_first at < l = omega arith in
          in-set _ (in-here (month_first at + past + n) (omega arith) g).0 (in-here (month_first at + past + n) (omega arith) g).1
          ∙ sym (moved (month_first at + past + n) (omega arith)) ∙ ap (has (set / 2 ^ past)) (back (month_first at) past n) ∙ there)))
        where
          short : l ≤ 31
          short = rw days (length-short at)

          low : n < l
          low = let h = short in least-below l least (omega arith) (lt_of_le_of_lt (shr_le set past) m.small) filled

          there : has (set / 2 ^ past) n ≡ true
          there = let h = short in let g = low in least.there (omega arith)

          within : n + past < l
          within = go (dec_le l (n + past))
            where
              go : Dec (l ≤ n + past) → n + past < l
              go (yes h) = never (sym (has-shr set past n) ∙ there) (has_above set l (n + past) m.small h)
              go (no h) = omega arith

          back : (f p n : ℕ) → f + p + n - f - p ≡ n
          back f p n = omega arith

          in-here : (k : ℕ) → month_first at ≤ k → k - month_first at < l → (k < day_count) × (month_number (date_at k) ≡ at)
          in-here k x y =
              let g : month_first at + (k - month_first at) ≡ k = omega arith in
              rw g at (in-month at (k - month_first at) small (rw days at y))

-- a rule whose BYDAY names no day
module _ (r : Rule) (e : Date) (h : names_none r ≡ true) where
  has-not : (set n k : ℕ) → eqb (set % 2 ^ n) 0 ≡ true → k < n → has set k ≡ false
  has-not set n k z l = sym (has-mod set n k l) ∙ rw (eqb-true (set % 2 ^ n) 0 z) (has-none k)

  serves-not : (l d w : ℕ) → 1 ≤ d → d ≤ 31 → w < 7 → day_serves r e.day l d w ≡ false
  unfolding day_serves ordinal_serves names_none
  serves-not l d w x y z =
      let a = both r.by.day _ h in
      let b = both (eqb (r.days.weekdays % 2 ^ 7) 0) _ a.1 in
      let c = both (eqb (r.days.ordinals % 2 ^ 35) 0) _ b.1 in
      rw (
        a.0,
        has-not r.days.weekdays 7 w b.0 z,
        has-not r.days.ordinals 35 (w + 7 * ((d - 1) / 7)) c.0 (front d w y z),
        has-not r.days.lastordinals 35 (w + 7 * (4 - (l - d) / 7)) c.1 (back ((l - d) / 7) w z),
      )
    where
      front : (d w : ℕ) → d ≤ 31 → w < 7 → w + 7 * ((d - 1) / 7) < 35
      front d w y z = omega arith

      back : (q w : ℕ) → w < 7 → w + 7 * (4 - q) < 35
      back q w z = omega arith

  pub none_first : (places from : ℕ) → from < places → places ≤ day_count → due (monthly_meets r e) places from ≡ []
  none_first places from l q = nothing-next _ places from places (omega arith) (
      first-none _ places from places (omega arith) (omega arith) (λ k x y.
      let d : k < day_count = omega arith in
      let g = day-range k d in
      monthly-is r e k d ∙ rw (serves-not (month_days (date_at k).year (date_at k).month) (date_at k).day ((k + 5) % 7) g.0 g.1 (omega arith)) (and-false-right (counts r.interval (month_number (date_at k) - month_number e)))))

-- the month to begin with: that of the day, or the next that counts
module _ (r : Rule) (e : Date) (places from : ℕ) (d : Date) (is : d ≡ date_at from) (p : 1 ≤ r.interval) (l : from < day_count) (h : month_number e ≤ month_number d) where
  month-day : month_first (month_number d) + (d.day - 1) ≡ from
  month-day = rw is (let m = of-month (month_number (date_at from)) from l refl in let g = day-range from l in at _ _ _ m.from (ap (λ (x : Date). x.day) m.date))
    where
      at : (f k d : ℕ) → f ≤ k → d ≡ k - f + 1 → f + (d - 1) ≡ k
      at f k d x y = omega arith

  month-here : (month_number d - month_number e) % r.interval ≡ 0 → Counting r e (month_number d)
  month-here o = record { from = h; counts = o }

  month-room : month_first (month_number d) + (d.day - 1) ≤ month_first (month_number d + 1)
  month-room = rw month-day (go (dec_le (month_first (month_number d + 1)) from))
    where
      go : Dec (month_first (month_number d + 1) ≤ from) → from ≤ month_first (month_number d + 1)
      go (no n) = omega arith
      go (yes y) =
          let w : month_number d + 1 ≤ month_number d = rw (← is) at (month-from (month_number d + 1) from l y) in
          absurd (omega arith)

  first-here : (n : code.Option ℕ) → (month_number d - month_number e) % r.interval ≡ 0
      → (Counting r e (month_number d) → month_first (month_number d) + (d.day - 1) ≤ month_first (month_number d + 1) → NextOf (monthly_meets r e) places (month_first (month_number d) + (d.day - 1)) n)
      → NextOf (monthly_meets r e) places from n
  first-here n o f = rw month-day at (f (month-here o) month-room)

  module _ (n : (month_number d - month_number e) % r.interval ≡ 0 → ⊥) where
    abbrev next : ℕ
    next = month_number d + (r.interval - (month_number d - month_number e) % r.interval)

    further : month_number d < next
    further = let m = mod-lt (month_number d - month_number e) p in ahead _ _ _ m
      where
        ahead : (x i o : ℕ) → o < i → x < x + (i - o)
        ahead x i o h = omega arith

    month-next : Counting r e next
    month-next =
        let q : next - month_number e ≡ month_number d - month_number e + (r.interval - (month_number d - month_number e) % r.interval) = less _ _ _ h in
        record { from = (let f = further in omega arith); counts = ap (λ (x : ℕ). x % r.interval) q ∙ counted r.interval _ (counts-next r.interval (month_number d - month_number e) p) }
      where
        less : (x i y : ℕ) → y ≤ x → x + i - y ≡ x - y + i
        less x i y h = omega arith

    next-room : month_first next + 0 ≤ month_first (next + 1)
    next-room = let o = first-order next (next + 1) (omega arith) in omega arith

    next-from : from ≤ month_first next + 0
    next-from = go (dec_le (month_first next) from)
      where
        go : Dec (month_first next ≤ from) → from ≤ month_first next + 0
        go (no x) = omega arith
        go (yes y) =
            let w : next ≤ month_number d = rw (← is) at (month-from next from l y) in
            let f = further in
            absurd (omega arith)

    jumped : (k : ℕ) → k < day_count → from ≤ k → k < month_first next + 0 → monthly_meets r e k ≡ false
    jumped k c x y = fails-month r e k c (go (dec_le (month_number (date_at k)) (month_number d)))
      where
        o : month_number d ≤ month_number (date_at k)
        o = rw (← is) at (month-order from k x c)

        u : month_number (date_at k) < next
        u = month-below next k c (omega arith)

        go : Dec (month_number (date_at k) ≤ month_number d) → counts r.interval (month_number (date_at k) - month_number e) ≡ false
        go (yes z) =
            let v = o in
            let q : month_number (date_at k) ≡ month_number d = omega arith in
            rw q (counts-not r.interval (month_number d - month_number e) n)
        go (no z) =
            let v = u in
            counts-between r.interval (month_number d - month_number e) (month_number (date_at k) - month_number e) p (omega arith) (omega arith)

    first_next : (t : code.Option ℕ) → places ≤ day_count
        → (Counting r e next → month_first next + 0 ≤ month_first (next + 1) → NextOf (monthly_meets r e) places (month_first next + 0) t)
        → NextOf (monthly_meets r e) places from t
    first_next t q f =
        next-after _ places from (month_first next + 0) t next-from (λ k x y z. jumped k (omega arith) x y) (f month-next next-room)

-- the date that the code is told of the day to begin with
module _ (from : ℕ) (d : Date) (t : some d ≡ when (ltb from day_count) (date_at from)) where
  in-time : from < day_count
  in-time = ltb-true from day_count (date-within from d t)

  pub day-in : (1 ≤ d.day) × (d.day ≤ 31)
  day-in = rw (date-said from d t) (day-range from in-time)

  pub month-in : month_number d < 120000
  month-in = rw (date-said from d t) (month-last from in-time)

  -- its month and the start's
  module _ (r : Rule) (e : Date) (places month begin : ℕ) (p : 1 ≤ r.interval) (m : month ≡ month_number d) (b : begin ≡ month_number e)
      (h : month_number e ≤ month_number (date_at from)) where
    order : month_number e ≤ month_number d
    order = rw (date-said from d t) h

    pub never-before : {P : Type 0} → month < begin → P
    never-before u = let o = order in absurd (omega arith)

    pub from-here : (n : code.Option ℕ) → (month - begin) % r.interval ≡ 0
        → (Counting r e month → month_first month + (d.day - 1) ≤ month_first (month + 1) → NextOf (monthly_meets r e) places (month_first month + (d.day - 1)) n)
        → NextOf (monthly_meets r e) places from n
    from-here n o f = first-here r e places from d (date-said from d t) p in-time order n (rw (m, b) at o) (rw m at f)

    pub from_next : (n : code.Option ℕ) → ((month - begin) % r.interval ≡ 0 → ⊥) → places ≤ day_count
        → (Counting r e (month + (r.interval - (month - begin) % r.interval))
        → month_first (month + (r.interval - (month - begin) % r.interval)) + 0 ≤ month_first (month + (r.interval - (month - begin) % r.interval) + 1)
        → NextOf (monthly_meets r e) places (month_first (month + (r.interval - (month - begin) % r.interval)) + 0) n)
        → NextOf (monthly_meets r e) places from n
    from_next n o q f = first_next r e places from d (date-said from d t) p in-time order (rw (m, b) at o) n q (rw (m, b) at f)
