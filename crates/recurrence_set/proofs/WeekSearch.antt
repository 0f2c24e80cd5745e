-- Weekly rules: the weekdays that serve as a set, and the first day from one on, within its week or in the next week that counts.
use Prim.Native.Nat.{ℕ, ◌+◌, ◌-◌, ◌*◌, ◌/◌, ◌%◌, ◌^◌, ◌≤◌, ◌<◌}
use mathlib.Core.Path.{◌≡◌, sym, ap, ◌∙◌}
use mathlib.Core.Bool.{true, false}
use native.Mathlib.Omega.{arith}
use native.Mathlib.Nat.{mod-lt, add-mod_right}
use native.Mathlib.Decide.{dec_le}
use borrow.Author.Tests.{ne_eqb, eqb-false}
use lib.Dec.{eqb}
use lib.ListN.{length}
use lib.Pow.{pow_pos, shr_lt}
use Rattle.octets.specs.Basics.{◌and◌}
use Rattle.octets.proofs.Cases.{same?, itself, and-false-right}
use Rattle.calendar.specs.Gregorian.{weekday_at, week_at}
use Rattle.calendar.specs.Sets.{has}
use Rattle.calendar.specs.Rules.{weekday_place}
use Rattle.calendar.specs.declared.rules.Weekday.{Weekday}
use Rattle.calendar.specs.declared.rules.Rule.{Rule}
use Rattle.recurrence_set.specs.Lists.{due}
use Rattle.recurrence_set.specs.Meets.{counts, weekday_serves, weekly_meets}
use Rattle.recurrence_set.specs.Searches.{First, Least, Marks, MarksOnly, serves_in_week}
use Rattle.recurrence_set.proofs.Due.{first-at, first-none}
use Rattle.calendar.proofs.SetLaws.{has-none, has-power}
use Rattle.calendar.proofs.Gathering.{place-small}
use Rattle.recurrence_set.proofs.SetBits.{has-shr, has-mod, least-below}
use Rattle.recurrence_set.proofs.Every.{counts-here, counts-not, counts-between, counts-next, steps-sure}

-- a set of weekdays that serve, in weeks that begin on the weekday w
pub serving-week : (r : Rule) (v w a f : ℕ) → w < 7 → Marks 35 (λ k. has a (k % 7)) f → ((x : ℕ) → x < 7 → has a x ≡ weekday_serves r v x)
    → MarksOnly 7 (serves_in_week r v w) ((f / 2 ^ w) % 128)
unfolding serves_in_week
serving-week r v w a f h m s = record {
  days = λ k l. has-mod (f / 2 ^ w) 7 k l ∙ has-shr f w k ∙ m.days (k + w) (omega arith) ∙ s ((k + w) % 7) (omega arith);
  small = mod-lt (f / 2 ^ w) (pow_pos 7);
}

-- BYDAY's weekdays, or without BYDAY the start's
pub serves-named : (r : Rule) (v a : ℕ) → a ≡ r.days.weekdays → r.by.day ≡ true → (x : ℕ) → x < 7 → has a x ≡ weekday_serves r v x
unfolding weekday_serves
serves-named r v a q e x l = rw (q, e)

pub serves-start : (r : Rule) (v a : ℕ) → a ≡ (1 * 2 ^ v) % 2 ^ 64 → r.by.day ≡ false → (x : ℕ) → x < 7 → has a x ≡ weekday_serves r v x
unfolding weekday_serves
serves-start r v a q e x l =
    let o : 1 * 2 ^ v ≡ 2 ^ v = omega arith in
    rw (q, e) (has-mod (1 * 2 ^ v) 64 x (omega arith) ∙ ap (λ (n : ℕ). has n x) o ∙ has-power v x ∙ turn v x)
  where
    turn : (a b : ℕ) → eqb a b ≡ eqb b a
    turn a b = same? a b (λ e. rw (e, itself b)) (λ n. let d = eqb-false a b n in rw (n, ne_eqb b a (λ q. d (sym q))))

-- weeks that begin on the weekday w
same-weekday : (n w : ℕ) → w < 7 → ((n + 5 + (7 - w)) % 7 + w) % 7 ≡ (n + 5) % 7
same-weekday n w h = omega arith

week-order : (a k w : ℕ) → a ≤ k → (a + 5 + (7 - w)) / 7 ≤ (k + 5 + (7 - w)) / 7
week-order a k w h = omega arith

-- d weeks on
room : (a w d : ℕ) → w < 7 → 1 ≤ d → 5 + (7 - w) ≤ ((a + 5 + (7 - w)) / 7 + d) * 7
room a w d h p = omega arith

more-weeks : (i x : ℕ) → 1 ≤ i → 1 ≤ i - x % i
more-weeks i x p = let m = mod-lt x p in omega arith

pub place_of : (w : ℕ) (d : Weekday) → w ≡ weekday_place d → w < 7
place_of w d e = let q = place-small d in omega arith

pub room-front : (a w i x t : ℕ) (d : Weekday) → w ≡ weekday_place d → 1 ≤ i → 5 ≤ ((a + 5 + (7 - w)) / 7 + (i - x % i)) * 7 + t
room-front a w i x t d e p = let r = room a w (i - x % i) (place_of w d e) (more-weeks i x p) in omega arith

pub room_back : (a w i x t : ℕ) (d : Weekday) → w ≡ weekday_place d → 1 ≤ i → 7 - w ≤ ((a + 5 + (7 - w)) / 7 + (i - x % i)) * 7 + t - 5
room_back a w i x t d e p = let r = room a w (i - x % i) (place_of w d e) (more-weeks i x p) in omega arith

ahead : (a w d t : ℕ) → w < 7 → 1 ≤ d → a ≤ ((a + 5 + (7 - w)) / 7 + d) * 7 + t - 5 - (7 - w)
ahead a w d t h p = omega arith

its-week : (u w t : ℕ) → w < 7 → t < 7 → 5 + (7 - w) ≤ u * 7 → (u * 7 + t - 5 - (7 - w) + 5 + (7 - w)) / 7 ≡ u
its-week u w t h g p = omega arith

its-day : (u w t : ℕ) → w < 7 → t < 7 → 5 + (7 - w) ≤ u * 7 → (u * 7 + t - 5 - (7 - w) + 5 + (7 - w)) % 7 ≡ t
its-day u w t h g p = omega arith

before-day : (u w t k : ℕ) → t < 7 → k < u * 7 + t - 5 - (7 - w) → u ≤ (k + 5 + (7 - w)) / 7 → (k + 5 + (7 - w)) % 7 < t
before-day u w t k g p q = omega arith

-- days of one week
stays : (a w t : ℕ) → t + (a + 5 + (7 - w)) % 7 < 7 → (a + t + 5 + (7 - w)) / 7 ≡ (a + 5 + (7 - w)) / 7
stays a w t h = omega arith

moves : (a w t : ℕ) → t + (a + 5 + (7 - w)) % 7 < 7 → (a + t + 5 + (7 - w)) % 7 ≡ t + (a + 5 + (7 - w)) % 7
moves a w t h = omega arith

same-week : (a k w : ℕ) → a ≤ k → (k + 5 + (7 - w)) / 7 ≤ (a + 5 + (7 - w)) / 7 → (k + 5 + (7 - w)) % 7 ≡ k - a + (a + 5 + (7 - w)) % 7
same-week a k w h g = omega arith

apart : (x y z d : ℕ) → z ≤ x → x < y → y < x + d → (x - z < y - z) × (y - z < x - z + d)
apart x y z d h g k = (omega arith, omega arith)

on-from : (x z d : ℕ) → z ≤ x → x + d - z ≡ x - z + d
on-from x z d h = omega arith

less : {t : ℕ} → t < 7 → t < 64
less h = omega arith

same_number : {x y : ℕ} → x ≤ y → y ≤ x → y ≡ x
same_number h g = omega arith

module _ (r : Rule) (s w set : ℕ) (e : w ≡ weekday_place r.wkst) (m : MarksOnly 7 (serves_in_week r ((s + 5) % 7) w) set) (p : 1 ≤ r.interval) where
  small : w < 7
  small = place_of w r.wkst e

  weekly-is : (n : ℕ)
      → weekly_meets r s n ≡ (counts r.interval ((n + 5 + (7 - w)) / 7 - (s + 5 + (7 - w)) / 7) and has set ((n + 5 + (7 - w)) % 7))
  unfolding weekly_meets week_at weekday_at serves_in_week
  weekly-is n = rw (m.days ((n + 5 + (7 - w)) % 7) (omega arith), same-weekday n w small, ← e)

  -- a day meets the rule where its week counts and its weekday serves
  meets : (n : ℕ) → counts r.interval ((n + 5 + (7 - w)) / 7 - (s + 5 + (7 - w)) / 7) ≡ true
      → has set ((n + 5 + (7 - w)) % 7) ≡ true
      → weekly_meets r s n ≡ true
  meets n x y = weekly-is n ∙ rw (x, y)

  out-of-turn : (n : ℕ) → counts r.interval ((n + 5 + (7 - w)) / 7 - (s + 5 + (7 - w)) / 7) ≡ false → weekly_meets r s n ≡ false
  out-of-turn n x = weekly-is n ∙ rw x

  unserved : (n : ℕ) → has set ((n + 5 + (7 - w)) % 7) ≡ false → weekly_meets r s n ≡ false
  unserved n x = weekly-is n ∙ rw x (and-false-right (counts r.interval ((n + 5 + (7 - w)) / 7 - (s + 5 + (7 - w)) / 7)))

  -- no weekday serves
  pub week-none : set ≡ 0 → (a l : ℕ) → a ≤ l → First (weekly_meets r s) l a l
  week-none z a l h =
      first-none _ l a l h (omega arith)
      (λ k x y. unserved k (ap (λ (n : ℕ). has n ((k + 5 + (7 - w)) % 7)) z ∙ has-none ((k + 5 + (7 - w)) % 7)))

  module _ (a l : ℕ) (g : s ≤ a) where
    abbrev week : ℕ
    week = (a + 5 + (7 - w)) / 7

    abbrev first : ℕ
    first = (s + 5 + (7 - w)) / 7

    abbrev place : ℕ
    place = (a + 5 + (7 - w)) % 7

    abbrev out : ℕ
    out = (week - first) % r.interval

    -- the day on which a later week's weekday falls
    abbrev next : ℕ → ℕ
    next t = (week + (r.interval - out)) * 7 + t - 5 - (7 - w)

    -- a weekday of this week, which counts
    pub week-rest : out ≡ 0 → (set / 2 ^ place ≡ 0 → ⊥) → (t : ℕ) → Least (set / 2 ^ place) t → First (weekly_meets r s) l a (a + t)
    week-rest o n t q = first-at _ l a (a + t) (omega arith) (λ k x y z. misses k x y) (hits within)
      where
        within : t + place < 7
        within =
            let d : 7 - place + place ≡ 7 = omega arith in
            let c : set < 2 ^ (7 - place + place) = rw d m.small in
            let f : t < 7 - place = least-below (7 - place) q (omega arith) (shr_lt (7 - place) place c) n in
            omega arith

        misses : (k : ℕ) → a ≤ k → k < a + t → weekly_meets r s k ≡ false
        misses k x y =
            let d : a + (k - a) ≡ k = omega arith in
            let b = within in
            let f : (k + 5 + (7 - w)) % 7 ≡ k - a + place = ap (λ (i : ℕ). (i + 5 + (7 - w)) % 7) (sym d) ∙ moves a w (k - a) (omega arith) in
            unserved k (ap (has set) f ∙ sym (has-shr set place (k - a)) ∙ q.none (k - a) (omega arith))

        hits : t + place < 7 → weekly_meets r s (a + t) ≡ true
        hits b =
            meets (a + t) (ap (λ (x : ℕ). counts r.interval (x - first)) (stays a w t b) ∙ counts-here r.interval (week - first) o)
            (ap (has set) (moves a w t b) ∙ sym (has-shr set place t) ∙ q.there (omega arith))

    -- nothing more in this week; then the least weekday of the next that counts
    week-next : ((k : ℕ) → a ≤ k → (k + 5 + (7 - w)) / 7 ≤ week → weekly_meets r s k ≡ false) → (set ≡ 0 → ⊥) → (t : ℕ) → Least set t
        → First (weekly_meets r s) l a (next t)
    week-next f n t q =
        first-at _ l a (next t) (ahead a w (r.interval - out) t small more)
        (λ k x y z. misses k x y (dec_le ((k + 5 + (7 - w)) / 7) week) (dec_le (week + (r.interval - out)) ((k + 5 + (7 - w)) / 7))) hits
      where
        more : 1 ≤ r.interval - out
        more = more-weeks r.interval (week - first) p

        last : t < 7
        last = least-below 7 q (omega arith) m.small n

        misses : (k : ℕ) → a ≤ k → k < next t → Dec ((k + 5 + (7 - w)) / 7 ≤ week) → Dec (week + (r.interval - out) ≤ (k + 5 + (7 - w)) / 7)
            → weekly_meets r s k ≡ false
        misses k x y (yes d) c = f k x d
        misses k x y (no d) (yes c) = unserved k (q.none ((k + 5 + (7 - w)) % 7) (before-day (week + (r.interval - out)) w t k last y c))
        misses k x y (no d) (no c) =
            let b = apart week ((k + 5 + (7 - w)) / 7) first (r.interval - out) (week-order s a w g) (omega arith) (omega arith) in
            out-of-turn k (counts-between r.interval (week - first) ((k + 5 + (7 - w)) / 7 - first) p b.0 b.1)

        hits : weekly_meets r s (next t) ≡ true
        hits =
            let b = room a w (r.interval - out) small more in
            let d : week + (r.interval - out) - first ≡ week - first + (r.interval - out) = on-from week first (r.interval - out) (week-order s a w g) in
            meets (next t)
            (ap (λ (x : ℕ). counts r.interval (x - first)) (its-week (week + (r.interval - out)) w t small last b)
            ∙ ap (counts r.interval) d ∙ counts-next r.interval (week - first) p)
            (ap (has set) (its-day (week + (r.interval - out)) w t small last b) ∙ q.there (less last))

    -- this week does not count
    pub week-skipped : (out ≡ 0 → ⊥) → (set ≡ 0 → ⊥) → (t : ℕ) → Least set t → First (weekly_meets r s) l a (next t)
    week-skipped o n t q =
        week-next (λ k x y.
        let d : (k + 5 + (7 - w)) / 7 ≡ week = same_number (week-order a k w x) y in
        out-of-turn k (ap (λ (z : ℕ). counts r.interval (z - first)) d ∙ counts-not r.interval (week - first) o)) n t q

    -- this week has no weekday more
    pub week-done : set / 2 ^ place ≡ 0 → (set ≡ 0 → ⊥) → (t : ℕ) → Least set t → First (weekly_meets r s) l a (next t)
    week-done z n t q =
        week-next (λ k x y.
        unserved k (ap (has set) (same-week a k w x y) ∙ sym (has-shr set place (k - a)) ∙ ap (λ (b : ℕ). has b (k - a)) z ∙ has-none (k - a))) n t q

-- what meets the rule meets it again a counted week later, so there are at least as many as such weeks
week-later : (s k w i : ℕ) → s ≤ k → (k + 7 * i + 5 + (7 - w)) / 7 - (s + 5 + (7 - w)) / 7 ≡ (k + 5 + (7 - w)) / 7 - (s + 5 + (7 - w)) / 7 + i
week-later s k w i h = omega arith

day-later : (k i : ℕ) → (k + 7 * i + 5) % 7 ≡ (k + 5) % 7
day-later k i = omega arith

week-again : (r : Rule) (s k : ℕ) → s ≤ k → weekly_meets r s (k + 7 * r.interval) ≡ weekly_meets r s k
unfolding weekly_meets week_at weekday_at counts
week-again r s k h =
    rw (week-later s k (weekday_place r.wkst) r.interval h, day-later k r.interval, add-mod_right ((k + 5 + (7 - weekday_place r.wkst)) / 7 - (s + 5 + (7 - weekday_place r.wkst)) / 7) r.interval)

pub weekly-sure : (r : Rule) (s l a : ℕ) → 1 ≤ r.interval → s ≤ a → weekly_meets r s a ≡ true → a < l → (l - a - 1) / (7 * r.interval) + 1 ≤ length (due (weekly_meets r s) l a)
weekly-sure r s l a p h e g = steps-sure (weekly_meets r s) l (7 * r.interval) (omega arith) a (λ k x y. week-again r s k (omega arith) ∙ y) e g
