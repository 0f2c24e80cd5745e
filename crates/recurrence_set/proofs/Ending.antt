-- The end of a rule: an UNTIL is a limit to the places, and a COUNT one to the room.
use Prim.Native.Nat.{ℕ, zero, suc, ◌+◌, ◌-◌, ◌*◌, ◌/◌, ◌%◌, ◌≤◌, ◌<◌, min}
use mathlib.Core.Path.{◌≡◌, refl, ap, ◌∙◌}
use mathlib.Core.Bool.{Bool, true, false}
use mathlib.Core.List.{List, [], ◌∷◌, map}
use native.Mathlib.Omega.{arith}
use native.Mathlib.Decide.{dec_le}
use native.Mathlib.Nat.{zero-min, min-zero, suc-min-suc, min-le_left, min-le_right, min-eq_left, min-eq_right, div-lt_iff_lt-mul, le-div_iff_mul-le}
use borrow.Author.Tests.{ltb-true, ltb-false, le-leb, lt-leb}
use lib.Dec.{ltb}
use lib.ListN.{take}
use Rattle.octets.proofs.Cases.{cases}
use Rattle.calendar.specs.Gregorian.{day_count}
use Rattle.calendar.specs.Moments.{is_moment, hour_number, at_hour, second_number, not_behind}
use Rattle.calendar.specs.declared.moments.Moment.{Moment}
use Rattle.calendar.specs.declared.rules.Frequency.{Frequency}
use Rattle.calendar.specs.declared.rules.End.{End}
use Rattle.calendar.specs.declared.rules.End.TheVariants.{Count, Until, Open}
use Rattle.calendar.specs.declared.rules.Rule.{Rule}
use Rattle.calendar.proofs.Inverse.{number-back}
use Rattle.recurrence_set.specs.Lists.{numbers_from, only, while, due}
use Rattle.recurrence_set.specs.Meets.{is_hourly, place_of, places_of, on_day, moment_at, meets_by, moments_by, moments_of, ended, listed}
use Rattle.recurrence_set.specs.Searches.{unit_of, seconds_in, places_up_to, limit_of, room_of, series_of, meets_at, real_end, Founded}

-- the seconds of the moment at a place
module _ (f : Frequency) (m : Moment) (n : ℕ) (l : n < places_of f) where
  hourly-seconds : is_hourly f ≡ true → second_number (moment_at f m n) ≡ n * unit_of f + seconds_in f m
  unfolding moment_at unit_of seconds_in second_number hour_number at_hour places_of
  hourly-seconds e =
      let k : n < day_count * 24 = rw e at l in
      rw (e, (number-back (n / 24) (small n day_count k)).number) (sums n m.minute m.second)
    where
      small : (n d : ℕ) → n < d * 24 → n / 24 < d
      small n d h = omega arith

      sums : (n a b : ℕ) → ((n / 24 * 24 + n % 24) * 60 + a) * 60 + b ≡ n * 3600 + (a * 60 + b)
      sums n a b = omega arith

  daily-seconds : is_hourly f ≡ false → second_number (moment_at f m n) ≡ n * unit_of f + seconds_in f m
  unfolding moment_at unit_of seconds_in second_number hour_number on_day places_of
  daily-seconds e =
      let k : n < day_count = rw e at l in
      rw (e, (number-back n k).number) (sums n m.hour m.minute m.second)
    where
      sums : (n h a b : ℕ) → ((n * 24 + h) * 60 + a) * 60 + b ≡ n * 86400 + ((h * 60 + a) * 60 + b)
      sums n h a b = omega arith

  pub seconds-at : second_number (moment_at f m n) ≡ n * unit_of f + seconds_in f m
  seconds-at = cases (is_hourly f) hourly-seconds daily-seconds

-- a place lies not behind the second u just where it is one of those that are counted
module _ (unit t u n : ℕ) (p : 1 ≤ unit) where
  not_behind_lem : n < places_up_to unit t u → n * unit + t ≤ u
  unfolding places_up_to
  not_behind_lem h = cases (ltb u t)
      (λ e. let z : n < 0 = rw e at h in absurd (omega arith))
      (λ e. let z : n < (u - t) / unit + 1 = rw e at h in
      let l = ltb-false u t e in
      let d : n * unit ≤ u - t = (le-div_iff_mul-le p).0 (less n ((u - t) / unit) z) in
      omega arith)
    where
      less : (n d : ℕ) → n < d + 1 → n ≤ d
      less n d h = omega arith

  behind : places_up_to unit t u ≤ n → u < n * unit + t
  unfolding places_up_to
  behind h = cases (ltb u t)
      (λ e. let l = ltb-true u t e in omega arith)
      (λ e. let z : (u - t) / unit + 1 ≤ n = rw e at h in
      let d : u - t < n * unit = (div-lt_iff_lt-mul p).0 (less n ((u - t) / unit) z) in
      omega arith)
    where
      less : (n d : ℕ) → d + 1 ≤ n → d < n
      less n d h = omega arith

unit-some : (f : Frequency) → 1 ≤ unit_of f
unfolding unit_of
unit-some f = cases (is_hourly f) (λ e. rw e (omega arith)) (λ e. rw e (omega arith))

-- the numbers of a list before the first that fails, where those fail that are not below a bound
module _ (p : ℕ → Bool) (g : ℕ → Moment) (q : Moment → Bool) where
  cut : (k j a : ℕ) → j ≤ k → ((n : ℕ) → a ≤ n → n < a + j → q (g n) ≡ true) → ((n : ℕ) → a + j ≤ n → n < a + k → q (g n) ≡ false)
      → while q (map g (only p (numbers_from k a))) ≡ map g (only p (numbers_from j a))
  unfolding while only numbers_from
  cut zero zero a h y x = refl
  cut zero (suc j) a h y x = absurd (omega arith)
  cut (suc k) zero a h y x =
      let i = cut k zero (suc a) (omega arith) (λ n v w. absurd (omega arith)) (λ n v w. x n (omega arith) (omega arith)) in
      cases (p a) (λ e. rw (e, x a (omega arith) (omega arith))) (λ e. rw e i)
  cut (suc k) (suc j) a h y x =
      let i = cut k j (suc a) (omega arith) (λ n v w. y n (omega arith) (omega arith)) (λ n v w. x n (omega arith) (omega arith)) in
      cases (p a) (λ e. rw (e, y a (omega arith) (omega arith), i)) (λ e. rw e i)

take-map : {A B : Type 0} (g : A → B) (n : ℕ) (xs : List A) → take n (map g xs) ≡ map g (take n xs)
take-map g zero xs = refl
take-map g (suc n) [] = refl
take-map g (suc n) (x ∷ xs) = ap (λ r. g x ∷ r) (take-map g n xs)

take_less : {A : Type 0} (a b : ℕ) (xs : List A) → take a (take b xs) ≡ take (min b a) xs
take_less zero b xs = rw (min-zero b)
take_less (suc a) zero xs = rw (zero-min (suc a))
take_less (suc a) (suc b) [] = rw (suc-min-suc b a)
take_less (suc a) (suc b) (x ∷ xs) = rw (suc-min-suc b a) (ap (λ r. x ∷ r) (take_less a b xs))

limited : (f : Frequency) (m : Moment) (e : End) → limit_of f m e ≤ places_of f
unfolding limit_of
limited f m (Count n) = omega arith
limited f m (Until u) = min-le_left _ _
limited f m Open = omega arith

pub series-founded : (m : Moment) (r : Rule) → is_moment m ≡ true → 1 ≤ r.interval → Founded (series_of m r)
unfolding series_of
series-founded m r h i = record { interval = i; start = h; place = refl; places = limited r.frequency m r.end }

-- an UNTIL cuts the places off
module _ (f : Frequency) (m u : Moment) (p : ℕ → Bool) where
  abbrev most : ℕ
  most = places_up_to (unit_of f) (seconds_in f m) (second_number u)

  in-time : (n : ℕ) → n < places_of f → n < most → not_behind (moment_at f m n) u ≡ true
  unfolding not_behind
  in-time n l h = rw (seconds-at f m n l) (le-leb _ _ (not_behind_lem (unit_of f) (seconds_in f m) (second_number u) n (unit-some f) h))

  late : (n : ℕ) → n < places_of f → most ≤ n → not_behind (moment_at f m n) u ≡ false
  unfolding not_behind
  late n l h = rw (seconds-at f m n l) (lt-leb _ _ (behind (unit_of f) (seconds_in f m) (second_number u) n (unit-some f) h))

  until : (a : ℕ) → while (λ x. not_behind x u) (map (moment_at f m) (due p (places_of f) a)) ≡ map (moment_at f m) (due p (min (places_of f) most) a)
  unfolding due
  until a =
      let x = min-le_left (places_of f) most in
      let y = min-le_right (places_of f) most in
      cut p (moment_at f m) (λ x. not_behind x u) (places_of f - a) (min (places_of f) most - a) a (less (min (places_of f) most) (places_of f) a x)
      (λ n v w. let k : n < min (places_of f) most = near n a (min (places_of f) most) v w in in-time n (order n _ _ k x) (order n _ _ k y))
      (λ n v w. let k : n < places_of f = near n a (places_of f) (from n a _ v) w in late n k (other n a (places_of f) most v k))
    where
      less : (b c a : ℕ) → b ≤ c → b - a ≤ c - a
      less b c a h = omega arith

      near : (n a b : ℕ) → a ≤ n → n < a + (b - a) → n < b
      near n a b v w = omega arith

      from : (n a b : ℕ) → a + b ≤ n → a ≤ n
      from n a b v = omega arith

      order : (n b c : ℕ) → n < b → b ≤ c → n < c
      order n b c v w = omega arith

      other : (n a b c : ℕ) → a + (min b c - a) ≤ n → n < b → c ≤ n
      other n a b c v w = go (dec_le b c)
        where
          go : Dec (b ≤ c) → c ≤ n
          go (yes h) = let e = rw (min-eq_left h) at v in absurd (omega arith)
          go (no h) = let g : c ≤ b = omega arith in let e = rw (min-eq_right g) at v in omega arith

listed-limited : (f : Frequency) (m : Moment) (e : End) (p : ℕ → Bool) (a room : ℕ)
    → take room (ended e (map (moment_at f m) (due p (places_of f) a))) ≡ map (moment_at f m) (take (room_of e room) (due p (limit_of f m e) a))
unfolding ended room_of limit_of
listed-limited f m (Count n) p a room = take_less room n _ ∙ take-map (moment_at f m) (min n room) _
listed-limited f m (Until u) p a room = rw (until f m u p a) (take-map (moment_at f m) room _)
listed-limited f m Open p a room = take-map (moment_at f m) room _

pub ended-limited : (r : Rule) (m : Moment) → is_moment m ≡ true → real_end r.end → (room : ℕ)
    → listed r m room ≡ map (moment_at r.frequency m) (take (room_of r.end room) (due (meets_at (series_of m r)) (series_of m r).places (series_of m r).place))
unfolding listed moments_of moments_by series_of meets_at
ended-limited r m h e room = listed-limited r.frequency m r.end (meets_by r.frequency r m (place_of r.frequency m)) (place_of r.frequency m) room
