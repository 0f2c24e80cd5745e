-- HOURLY and DAILY rules: the k-th moment is the start moved on by k times the rule's hours, and there is none where that lies past 9999.
use Prim.Native.Nat.{ℕ, zero, suc, ◌+◌, ◌-◌, ◌*◌, ◌/◌, ◌%◌, ◌≤◌, ◌<◌}
use mathlib.Core.Path.{◌≡◌, refl, sym, ap, ◌∙◌}
use mathlib.Core.Bool.{Bool, true, false}
use mathlib.Core.List.{List, [], ◌∷◌, map}
use mathlib.Core.Option.{Option, none, some}
use native.Mathlib.Omega.{arith}
use native.Mathlib.Nat.{zero-mod, suc-mul, mul_assoc}
use native.Mathlib.Decide.{dec_le}
use borrow.Author.Tests.{lt-ltb, le-ltb, leb-true}
use lib.Dec.{ltb, leb}
use Rattle.octets.specs.Basics.{pick, ◌and◌}
use Rattle.octets.specs.Optional.{map?, when}
use Rattle.octets.proofs.Cases.{both}
use Rattle.calendar.specs.Gregorian.{is_day, day_number, day_count}
use Rattle.calendar.specs.Dates.{is_clock}
use Rattle.calendar.specs.Moments.{is_moment, hour_number, at_hour, moved}
use Rattle.calendar.specs.declared.moments.Moment.{Moment}
use Rattle.calendar.specs.declared.rules.Frequency.{Frequency}
use Rattle.calendar.specs.declared.rules.Frequency.TheVariants.{Secondly, Minutely, Hourly, Daily, Weekly, Monthly, Yearly}
use Rattle.calendar.specs.declared.rules.Rule.{Rule}
use Rattle.recurrence_set.specs.Lists.{due}
use Rattle.recurrence_set.specs.Meets.{is_hourly, place_of, places_of, on_day, moment_at, every_meets, meets_by, moments_by, moments_of}
use Rattle.recurrence_set.proofs.Due.{past}
use Rattle.recurrence_set.proofs.Every.{every_more, every-again}

-- the k-th of a list, from 0 on
unfoldable pub nth : {A : Type 0} → ℕ → List A → Option A
nth k [] = none
nth zero (x ∷ xs) = some x
nth (suc k) (x ∷ xs) = nth k xs

-- the frequencies that move a moment on by hours
abbrev pub steady : Frequency → Type 0
steady Secondly = ⊥
steady Minutely = ⊥
steady Hourly = Unit {0}
steady Daily = Unit {0}
steady Weekly = ⊥
steady Monthly = ⊥
steady Yearly = ⊥

-- the hours of an interval
unfoldable pub hours_of : Frequency → ℕ → ℕ
hours_of f interval = pick (is_hourly f) interval (interval * 24)

nth-map : {A B : Type 0} (g : A → B) (k : ℕ) (xs : List A) → nth k (map g xs) ≡ map? g (nth k xs)
unfolding nth map?
nth-map g k [] = refl
nth-map g zero (x ∷ xs) = refl
nth-map g (suc k) (x ∷ xs) = nth-map g k xs

map-when : {A B : Type 0} (g : A → B) (b : Bool) (x : A) → map? g (when b x) ≡ when b (g x)
unfolding map? when
map-when g true x = refl
map-when g false x = refl

-- the k-th place of every so many from s on
module _ (r : Rule) (s l : ℕ) (p : 1 ≤ r.interval) where
  none_left : (k a : ℕ) → l ≤ a → nth k (due (every_meets r s) l a) ≡ when (ltb (a + k * r.interval) l) (a + k * r.interval)
  unfolding nth when
  none_left k a g = rw (past (every_meets r s) l a g, le-ltb (a + k * r.interval) l (omega arith))

  every-nth : (k a : ℕ) → (a - s) % r.interval ≡ 0 → s ≤ a → nth k (due (every_meets r s) l a) ≡ when (ltb (a + k * r.interval) l) (a + k * r.interval)
  unfolding nth when
  every-nth zero a e h = go (dec_le l a)
    where
      go : Dec (l ≤ a) → nth zero (due (every_meets r s) l a) ≡ when (ltb (a + zero * r.interval) l) (a + zero * r.interval)
      go (yes g) = none_left zero a g
      go (no g) =
          let u : a < l = omega arith in
          let z : a + zero * r.interval ≡ a = omega arith in
          rw (z, every_more r s l p a e h u, lt-ltb a l u)
  every-nth (suc k) a e h = go (dec_le l a) (every-nth k (a + r.interval) (every-again r s l p a e h) (omega arith))
    where
      go : Dec (l ≤ a) → nth k (due (every_meets r s) l (a + r.interval)) ≡ when (ltb (a + r.interval + k * r.interval) l) (a + r.interval + k * r.interval)
          → nth (suc k) (due (every_meets r s) l a) ≡ when (ltb (a + suc k * r.interval) l) (a + suc k * r.interval)
      go (yes g) i = none_left (suc k) a g
      go (no g) i =
          let u : a < l = omega arith in
          let q : a + suc k * r.interval ≡ a + r.interval + k * r.interval = rw (suc-mul k r.interval) (omega arith) in
          rw (q, every_more r s l p a e h u) i

  pub place-nth : (k : ℕ) → nth k (due (every_meets r s) l s) ≡ when (ltb (s + k * r.interval) l) (s + k * r.interval)
  place-nth k = every-nth k s (let z : s - s ≡ 0 = omega arith in rw z (zero-mod r.interval)) (omega arith)

-- days as hours
module _ (m : Moment) (n : ℕ) where
  hour-few : is_moment m ≡ true → m.hour < 24
  unfolding is_moment is_clock
  hour-few h =
      let t = (both (is_day m.date.year m.date.month m.date.day) (leb m.hour 23 and leb m.minute 59 and leb m.second 60) h).1 in
      let b = leb-true m.hour 23 (both (leb m.hour 23) _ t).0 in
      omega arith

  day-hours : is_moment m ≡ true → when (ltb n day_count) (on_day m n) ≡ when (ltb (n * 24 + m.hour) (day_count * 24)) (at_hour m (n * 24 + m.hour))
  unfolding on_day at_hour
  day-hours h =
      let b = hour-few h in
      rw (quotient n m.hour b, remainder n m.hour b)
      (ap (λ (t : Bool). when t (on_day m n)) (tests n m.hour day_count b))
    where
      quotient : (n h : ℕ) → h < 24 → (n * 24 + h) / 24 ≡ n
      quotient n h b = omega arith

      remainder : (n h : ℕ) → h < 24 → (n * 24 + h) % 24 ≡ h
      remainder n h b = omega arith

      tests : (n h d : ℕ) → h < 24 → ltb n d ≡ ltb (n * 24 + h) (d * 24)
      tests n h d b = go (dec_le d n)
        where
          go : Dec (d ≤ n) → ltb n d ≡ ltb (n * 24 + h) (d * 24)
          go (yes g) = le-ltb n d g ∙ sym (le-ltb (n * 24 + h) (d * 24) (omega arith))
          go (no g) = lt-ltb n d (omega arith) ∙ sym (lt-ltb (n * 24 + h) (d * 24) (omega arith))

module _ (r : Rule) (m : Moment) (h : is_moment m ≡ true) (p : 1 ≤ r.interval) (k : ℕ) where
  hourly : nth k (map (at_hour m) (due (every_meets r (hour_number m)) (day_count * 24) (hour_number m))) ≡ moved m (k * r.interval)
  unfolding moved
  hourly = nth-map (at_hour m) k _ ∙ ap (map? (at_hour m)) (place-nth r (hour_number m) (day_count * 24) p k) ∙ map-when (at_hour m) _ _

  daily : nth k (map (on_day m) (due (every_meets r (day_number m.date)) day_count (day_number m.date))) ≡ moved m (k * (r.interval * 24))
  unfolding moved hour_number
  daily =
      let q : (day_number m.date + k * r.interval) * 24 + m.hour ≡ day_number m.date * 24 + m.hour + k * (r.interval * 24) = rw (← mul_assoc k r.interval 24) (sums _ _ _) in
      nth-map (on_day m) k _ ∙ ap (map? (on_day m)) (place-nth r (day_number m.date) day_count p k) ∙ map-when (on_day m) _ _
      ∙ day-hours m (day_number m.date + k * r.interval) h ∙ ap (λ (x : ℕ). when (ltb x (day_count * 24)) (at_hour m x)) q
    where
      sums : (d x o : ℕ) → (d + x) * 24 + o ≡ d * 24 + o + x * 24
      sums d x o = omega arith

  by-frequency : (f : Frequency) → steady f → nth k (moments_by f r m) ≡ moved m (k * hours_of f r.interval)
  unfolding moments_by moment_at meets_by place_of places_of is_hourly hours_of
  by-frequency Secondly z = absurd z
  by-frequency Minutely z = absurd z
  by-frequency Hourly z = hourly
  by-frequency Daily z = daily
  by-frequency Weekly z = absurd z
  by-frequency Monthly z = absurd z
  by-frequency Yearly z = absurd z

pub stop-k : (r : Rule) (m : Moment) → is_moment m ≡ true → 1 ≤ r.interval → steady r.frequency → (k : ℕ) → nth k (moments_of r m) ≡ moved m (k * hours_of r.frequency r.interval)
unfolding moments_of
stop-k r m h p z k = by-frequency r m h p k r.frequency z
