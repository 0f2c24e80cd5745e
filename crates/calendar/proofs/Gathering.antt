-- The values of BYDAY and BYMONTHDAY, gathered one after another, as the code reads them.
use Prim.Native.Nat.{ℕ, ◌+◌, ◌-◌, ◌*◌, ◌≤◌, ◌<◌, min}
use mathlib.Core.Path.{◌≡◌, refl, sym, ap, ◌∙◌}
use mathlib.Core.Bool.{true, false}
use mathlib.Core.List.{List, [], ◌∷◌}
use native.Mathlib.Omega.{arith}
use borrow.Author.Tests.{eq-eqb, ne_eqb, lt-leb, leb-true, leb-false}
use lib.Dec.{eqb, leb}
use lib.ListN.{length, get_or, take, drop}
use Rattle.std.specs.Prelude.{fold}
use Rattle.std.specs.List.{slice_split}
use Rattle.octets.specs.Basics.{pick}
use Rattle.octets.specs.Classes.{upper}
use Rattle.octets.specs.Decimal.{value_of, minus, unsigned}
use Rattle.octets.specs.Pieces.{split}
use Rattle.octets.proofs.Cases.{cases}
use Rattle.octets.proofs.Classes.{below-between, above-between, within-between}
use Rattle.octets.proofs.Positions.{from, upto}
use Rattle.calendar.specs.Sets.{with}
use Rattle.calendar.specs.Rules.{weekday_of, weekday_place, with_day, with_month_day, gathered}
use Rattle.calendar.specs.declared.by_days.ByDays.{ByDays}
use Rattle.calendar.specs.declared.rules.Weekday.{Weekday}
use Rattle.calendar.specs.declared.rules.Weekday.TheVariants.{Sunday, Monday, Tuesday, Wednesday, Thursday, Friday, Saturday}
use Rattle.calendar.proofs.Pieces.{pieces-are, before-take, split-more, split-last, scanned}
use lib.Seq.{drop-drop}
use Rattle.calendar.specs.Walk.{before_first}

pub place-small : (w : Weekday) → weekday_place w ≤ 6
unfolding weekday_place
place-small Sunday = omega arith
place-small Monday = omega arith
place-small Tuesday = omega arith
place-small Wednesday = omega arith
place-small Thursday = omega arith
place-small Friday = omega arith
place-small Saturday = omega arith

pub gathered-first : (f : ByDays → List ℕ → ByDays) (b : ByDays) (x : List ℕ) (xs : List (List ℕ)) → gathered f b (x ∷ xs) ≡ gathered f (f b x) xs
unfolding gathered
gathered-first f b x xs = refl

gathered-all : (f : ByDays → List ℕ → ByDays) (b : ByDays) (ls : List (List ℕ)) → fold f b ls ≡ gathered f b ls
unfolding gathered
gathered-all f b [] = refl
gathered-all f b (l ∷ ls) = gathered-all f (f b l) ls

-- a fold of the values between commas
pub gathered-fold : (f : ByDays → List ℕ → ByDays) (b : ByDays) (v : List ℕ) → fold f b (slice_split (λ x. eqb x 44) v) ≡ gathered f b (split 44 v)
gathered-fold f b v = rw (pieces-are 44 v) (gathered-all f b (split 44 v))

-- one value of BYMONTHDAY; its digits begin at `at`, and n is their number, at most 32
module _ (b : ByDays) (s : List ℕ) (at n : ℕ) (u : unsigned s ≡ drop at s) (m : n ≡ min (value_of (take (length s - at) (drop at s))) (31 + 1)) where
  number : n ≡ min (value_of (unsigned s)) 32
  number = rw u (rw (from s at) at m)

  pub month-day-low : n < 1 → b ≡ with_month_day b s
  unfolding with_month_day
  month-day-low h = let e = number in rw (below-between 1 31 (value_of (unsigned s)) (omega arith))

  pub month-day-high : 31 < n → b ≡ with_month_day b s
  unfolding with_month_day
  month-day-high h = let e = number in rw (above-between 1 31 (value_of (unsigned s)) (omega arith))

  module _ (l : 1 ≤ n) (h : n ≤ 31) (c : ℕ) (p : c ≡ get_or s 0 0) (k : ℕ) where
    exact : value_of (unsigned s) ≡ n
    exact = let e = number in omega arith

    pub month-day-last : eqb c 45 ≡ true → k ≡ with b.lastmonthdays (31 - n)
        → record { weekdays = b.weekdays; ordinals = b.ordinals; lastordinals = b.lastordinals; monthdays = b.monthdays; lastmonthdays = k } ≡ with_month_day b s
    unfolding with_month_day minus
    month-day-last t w = rw (exact, within-between 1 31 n l h, ← p, t, w)

    pub month-day-nth : eqb c 45 ≡ false → k ≡ with b.monthdays (n - 1)
        → record { weekdays = b.weekdays; ordinals = b.ordinals; lastordinals = b.lastordinals; monthdays = k; lastmonthdays = b.lastmonthdays } ≡ with_month_day b s
    unfolding with_month_day minus
    month-day-nth t w = rw (exact, within-between 1 31 n l h, ← p, t, w)

-- the week from the end, as the code chooses it
-- one value of BYDAY; its weekday begins at a, and n is the number in front, at most 6
module _ (b : ByDays) (s : List ℕ) (a at n : ℕ) (i : a ≡ length s - 2) (u : unsigned (take (a - 0) (drop 0 s)) ≡ drop at (take (a - 0) (drop 0 s)))
    (m : n ≡ min (value_of (take (length (take (a - 0) (drop 0 s)) - at) (drop at (take (a - 0) (drop 0 s))))) (5 + 1))
    (d : Weekday) (w : ℕ) (o : d ≡ weekday_of (upper (take (length s - a) (drop a s)))) (q : w ≡ weekday_place d) (k : ℕ) where
  front : take (a - 0) (drop 0 s) ≡ take (length s - 2) s
  front = upto s a ∙ ap (λ (j : ℕ). take j s) i

  abbrev count : ℕ
  count = value_of (unsigned (take (length s - 2) s))

  counted : min count 6 ≡ n
  counted = sym (rw (← front, u) (rw (from (take (a - 0) (drop 0 s)) at) at m))

  place : weekday_place (weekday_of (upper (drop (length s - 2) s))) ≡ w
  place = sym (q ∙ ap weekday_place (rw (from s a, i) at o))

  pub day-every : n ≡ 0 → k ≡ with b.weekdays w
      → record { weekdays = k; ordinals = b.ordinals; lastordinals = b.lastordinals; monthdays = b.monthdays; lastmonthdays = b.lastmonthdays } ≡ with_day b s
  unfolding with_day
  day-every z e = let f = counted in rw (place, eq-eqb count 0 (omega arith), e)

  module _ (z : n ≡ 0 → ⊥) (c : ℕ) (p : c ≡ get_or s 0 0) where
    some : eqb count 0 ≡ false
    some = ne_eqb count 0 (λ y. let f = counted in z (omega arith))

    week : pick (leb count 5) (5 - count) 5 ≡ pick (leb n 5) (5 - n) 5
    week = same count n counted
      where
        same : (c n : ℕ) → min c 6 ≡ n → pick (leb c 5) (5 - c) 5 ≡ pick (leb n 5) (5 - n) 5
        same c n f = cases (leb c 5)
            (λ e. let h = leb-true c 5 e in let g : c ≡ n = omega arith in rw g)
            (λ e. let h = leb-false c 5 e in rw (e, lt-leb n 5 (omega arith)))

    pub day-nth : eqb c 45 ≡ false → k ≡ with b.ordinals (w + 7 * (n - 1))
        → record { weekdays = b.weekdays; ordinals = k; lastordinals = b.lastordinals; monthdays = b.monthdays; lastmonthdays = b.lastmonthdays } ≡ with_day b s
    unfolding with_day minus
    day-nth t e = rw (place, some, ← p, t, counted, e)

    pub day-last : (x : ℕ) → x ≡ pick (leb n 5) (5 - n) 5 → eqb c 45 ≡ true → k ≡ with b.lastordinals (w + 7 * x)
        → record { weekdays = b.weekdays; ordinals = b.ordinals; lastordinals = k; monthdays = b.monthdays; lastmonthdays = b.lastmonthdays } ≡ with_day b s
    unfolding with_day minus
    day-last x y t e = rw (place, some, ← p, t, week, ← y, e)

-- a turn, which takes the value at `at`, of e octets, and makes c of b
module _ (f : ByDays → List ℕ → ByDays) (v : List ℕ) (at e : ℕ) (b c : ByDays) (is : e ≡ length (before_first 44 (take (length v - at) (drop at v))))
    (told : c ≡ f b (take (e - 0) (drop 0 (take (length v - at) (drop at v))))) where
  abbrev rest : List ℕ
  rest = drop at v

  here : e ≡ length (before_first 44 rest)
  here = scanned 44 v at e is

  value : f b (take e rest) ≡ c
  value = sym (rw (from v at, upto rest e) at told)

  piece : before_first 44 rest ≡ take e rest
  piece = rw here (before-take 44 rest)

  pub gathers-last : length (take (length v - at) rest) ≤ e → gathered f b (split 44 rest) ≡ c
  unfolding gathered
  gathers-last h = rw (split-last 44 rest (rw (← here) (rw (from v at) at h)), piece) value

  pub gathers-more : e < length (take (length v - at) rest) → gathered f b (split 44 rest) ≡ gathered f c (split 44 (drop (at + e + 1) v))
  gathers-more h =
      let p : split 44 rest ≡ before_first 44 rest ∷ split 44 (drop (e + 1) rest) = rw (← here) at (split-more 44 rest (rw (← here) (rw (from v at) at h))) in
      let d : drop (e + 1) rest ≡ drop (at + e + 1) v = drop-drop (e + 1) at v ∙ ap (λ (n : ℕ). drop n v) (sum at e) in
      rw (p, piece) (gathered-first f b (take e rest) (split 44 (drop (e + 1) rest)) ∙ rw (value, d))
    where
      sum : (at e : ℕ) → at + (e + 1) ≡ at + e + 1
      sum at e = omega arith
