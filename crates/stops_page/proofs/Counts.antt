-- How many stops a run has: by a walk from place to place, or by a division where every so many places meet the rule.
use Prim.Native.Nat.{ℕ, zero, suc, ◌+◌, ◌-◌, ◌*◌, ◌/◌, ◌%◌, ◌≤◌, ◌<◌, min}
use mathlib.Core.Path.{◌≡◌, refl, sym, ap, ◌∙◌}
use mathlib.Core.Bool.{Bool, true}
use mathlib.Core.Logic.{◌⊎◌, inl, inr}
use mathlib.Core.List.{[], map}
use native.Mathlib.Omega.{arith}
use borrow.Author.Tests.{eqb-true}
use lib.ListN.{length, take, length-take, length-map}
use Rattle.std.proofs.lemmas.List.{take_min}
use Rattle.calendar.specs.declared.rules.Frequency.TheVariants.{Hourly, Daily, Weekly}
use Rattle.calendar.specs.declared.rules.Rule.{Rule}
use Rattle.recurrence_set.specs.declared.Series.{Series}
use Rattle.recurrence_set.specs.Lists.{due}
use Rattle.recurrence_set.specs.Meets.{counts, every_meets, weekly_meets, meets_by}
use Rattle.recurrence_set.specs.Searches.{First, meets_at}
use Rattle.recurrence_set.proofs.Due.{passes-first}
use Rattle.recurrence_set.proofs.Every.{every-count}
use Rattle.recurrence_set.proofs.WeekSearch.{weekly-sure}
use Rattle.stop_list.specs.declared.runs.Run.{Run}
use Rattle.stop_list.specs.Runs.{stop_in, stops_from, stops_of, Live}

-- not more than k of the places from a on
abbrev pub count_from : Series → ℕ → ℕ → ℕ
count_from s k a = length (take k (due (meets_at s) s.places a))

take_none : (k : ℕ) → take {A = ℕ} k [] ≡ []
take_none zero = refl
take_none (suc k) = refl

-- a walk that has counted n of them, and t in the end: the search finds none, or the first of them
module _ (s : Series) (t n most a : ℕ) (c : n + count_from s (most - n) a ≡ t) where
  pub walk-full : most ≤ n → n ≡ t
  walk-full l = let z : most - n ≡ 0 = omega arith in let d : n + count_from s 0 a ≡ t = (rw z at c) in omega arith

  pub walk_ends : due (meets_at s) s.places a ≡ [] → n ≡ t
  walk_ends z = let e : count_from s (most - n) a ≡ 0 = (rw (z, take_none (most - n))) in omega arith

  pub walk-on : (h : ℕ) → First (meets_at s) s.places a h → n < most → h < s.places → n + 1 + count_from s (most - (n + 1)) (h + 1) ≡ t
  walk-on h f l w = let e = one (most - n) (most - (n + 1)) (omega arith) in omega arith
    where
      one : (k j : ℕ) → k ≡ suc j → count_from s k a ≡ suc (count_from s j (h + 1))
      one k j e = rw (e, f.same, passes-first (meets_at s) s.places h w (f.passes w))

-- the stops of a run
pub counted : (r : Run) → count_from r.series r.room r.from ≡ length (stops_of r)
unfolding stops_of stops_from
counted r = rw length-map

pub walk-all : (r : Run) (n a : ℕ) → n + count_from r.series (r.room - n) a ≡ count_from r.series r.room r.from → r.room ≤ n → n ≤ r.room → r.room ≡ length (stops_of r)
walk-all r n a c h g = (let e = walk-full r.series (count_from r.series r.room r.from) n r.room a c h in let q : r.room ≡ count_from r.series r.room r.from = omega arith in q) ∙ counted r

-- where there are at least as many as there is room for
pub sure-count : (r : Run) (n : ℕ) → n ≤ length (due (meets_at r.series) r.series.places r.from) → r.room ≤ n → r.room ≡ length (stops_of r)
sure-count r n h l = (let e = length-take r.room (due (meets_at r.series) r.series.places r.from) in let q : r.room ≡ count_from r.series r.room r.from = omega arith in q) ∙ counted r

pub no-room : (r : Run) → r.room ≡ 0 → 0 ≡ length (stops_of r)
unfolding stops_of stops_from
no-room r z = rw z

pub none_ahead : (r : Run) → due (meets_at r.series) r.series.places r.from ≡ [] → 0 ≡ length (stops_of r)
none_ahead r z = (let e : 0 ≡ count_from r.series r.room r.from = (rw (z, take_none r.room)) in e) ∙ counted r

-- the same stops: with no more room than they need, from the first on, and where there is none
pub needed-room : (r : Run) (n : ℕ) → n ≡ length (stops_of r) → stops_of (record { series = r.series; room = n; from = r.from }) ≡ stops_of r
unfolding stops_of stops_from
needed-room r n e = ap (map (stop_in r.series)) (rw (e, length-map, length-take) (take_min r.room (due (meets_at r.series) r.series.places r.from)))

pub from-first : (r : Run) (h : ℕ) → due (meets_at r.series) r.series.places r.from ≡ due (meets_at r.series) r.series.places h → stops_of (record { series = r.series; room = r.room; from = h }) ≡ stops_of r
unfolding stops_of stops_from
from-first r h e = rw e

pub of-none : (r : Run) → due (meets_at r.series) r.series.places r.from ≡ [] → stops_of (record { series = r.series; room = 0; from = r.from }) ≡ stops_of r
unfolding stops_of stops_from
of-none r z = rw (z, take_none r.room)

module _ (r : Run) (v : Live r) (h : ℕ) (f : First (meets_at r.series) r.series.places r.from h) (w : h < r.series.places) where
  abbrev s : Series
  s = r.series

  abbrev rule : Rule
  rule = s.rule

  from : s.place ≤ h
  from = let g = f.from in let b = v.from in omega arith

  -- every so many places meet the rule
  abbrev every : ℕ → Type 0
  every n = n ≡ (s.places - h - 1) / rule.interval + 1

  divides : every_meets rule s.place h ≡ true → (h - s.place) % rule.interval ≡ 0
  unfolding every_meets counts
  divides e = eqb-true _ 0 e

  count-every : meets_at s ≡ every_meets rule s.place → (n : ℕ) → every n → (m : ℕ) → m ≡ min r.room n → m ≡ length (stops_of r)
  count-every e n q m d =
      let d0 = divides (ap (λ p. p h) (sym e) ∙ f.passes w) in
      let c = every-count rule s.place s.places h v.founded.interval d0 from w in
      let t : min r.room n ≡ count_from s r.room r.from = (rw (f.same, length-take, q, e, c)) in
      d ∙ t ∙ counted r

  pub count-stepped : (rule.frequency ≡ Hourly) ⊎ (rule.frequency ≡ Daily) → (n : ℕ) → every n → (m : ℕ) → m ≡ min r.room n → m ≡ length (stops_of r)
  unfolding meets_at meets_by
  count-stepped (inl e) = count-every (ap {B = ℕ → Bool} (λ g n. meets_by g rule s.start s.place n) e)
  count-stepped (inr e) = count-every (ap {B = ℕ → Bool} (λ g n. meets_by g rule s.start s.place n) e)

  -- a weekly rule is met again in each week that counts
  pub weeks-ahead : rule.frequency ≡ Weekly → (n : ℕ) → n ≡ (s.places - h - 1) / (7 * rule.interval) + 1 → n ≤ length (due (meets_at s) s.places r.from)
  unfolding meets_at meets_by
  weeks-ahead e n q =
      let m : meets_at s ≡ weekly_meets rule s.place = ap {B = ℕ → Bool} (λ g n. meets_by g rule s.start s.place n) e in
      rw (f.same, q, m) (weekly-sure rule s.place s.places h v.founded.interval from (ap (λ p. p h) (sym m) ∙ f.passes w) w)
