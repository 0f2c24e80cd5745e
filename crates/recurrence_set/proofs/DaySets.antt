-- The days of a month as sets: what the sets of BYDAY and BYMONTHDAY have, and the set of one day.
use Prim.Native.Nat.{ℕ, ◌+◌, ◌-◌, ◌*◌, ◌/◌, ◌%◌, ◌^◌, ◌≤◌, ◌<◌}
use mathlib.Core.Path.{◌≡◌, sym, ap, ◌∙◌}
use mathlib.Core.Bool.{Bool, true, false}
use native.Mathlib.Omega.{arith}
use native.Mathlib.Nat.{mod-lt}
use borrow.Author.Tests.{eq-eqb, ne_eqb, eqb-false}
use lib.Dec.{eqb}
use lib.Bits.{bit_or}
use lib.Pow.{pow_pos, shl_exact}
use Rattle.octets.specs.Basics.{◌or◌}
use Rattle.octets.proofs.Cases.{or_assoc, same?}
use Rattle.calendar.specs.Sets.{has}
use Rattle.calendar.specs.declared.by_days.ByDays.{ByDays}
use Rattle.calendar.specs.declared.rules.Rule.{Rule}
use Rattle.recurrence_set.specs.Meets.{ordinal_serves, month_day_serves, day_serves}
use Rattle.recurrence_set.specs.Searches.{Marks, MarksOnly, serves_in_month, names_none}
use Rattle.calendar.proofs.SetLaws.{has-or, has-power, has-none}
use Rattle.recurrence_set.proofs.SetBits.{has-shr, has-mod}

-- a power within 64 digits
pub one_shifted : (k : ℕ) → k ≤ 63 → (1 * 2 ^ k) % 2 ^ 64 ≡ 2 ^ k
one_shifted k h = shl_exact 1 k 64 (omega arith) (omega arith) ∙ one (2 ^ k)
  where
    one : (x : ℕ) → 1 * x ≡ x
    one x = omega arith

-- BYMONTHDAY
pub month-days : (days : ByDays) (l : ℕ) → l ≤ 31 → Marks l (λ k. month_day_serves days l (k + 1)) (bit_or days.monthdays (days.lastmonthdays / 2 ^ (31 - l)))
unfolding month_day_serves
month-days days l p = record { days = λ k h. there k h }
  where
    front : (k : ℕ) → k + 1 - 1 ≡ k
    front k = omega arith

    back : (k l : ℕ) → k < l → l ≤ 31 → 30 - (l - (k + 1)) ≡ k + (31 - l)
    back k l h p = omega arith

    there : (k : ℕ) → k < l → has (bit_or days.monthdays (days.lastmonthdays / 2 ^ (31 - l))) k
        ≡ (has days.monthdays (k + 1 - 1) or has days.lastmonthdays (30 - (l - (k + 1))))
    there k h = rw (front k, back k l h p) (has-or days.monthdays (days.lastmonthdays / 2 ^ (31 - l)) k ∙ rw (has-shr days.lastmonthdays (31 - l) k))

-- the start's day of the month
pub no-day : (v : ℕ) → ((k : ℕ) → k < 31 → k + 1 ≡ v → ⊥) → Marks 31 (λ k. eqb (k + 1) v) 0
no-day v f = record { days = λ k h. has-none k ∙ sym (ne_eqb (k + 1) v (f k h)) }

pub one-day : (v : ℕ) → 1 ≤ v → v ≤ 31 → Marks 31 (λ k. eqb (k + 1) v) ((1 * 2 ^ (v - 1)) % 2 ^ 64)
one-day v p q = record { days = λ k h. there k }
  where
    there : (k : ℕ) → has ((1 * 2 ^ (v - 1)) % 2 ^ 64) k ≡ eqb (k + 1) v
    there k = rw (one_shifted (v - 1) (omega arith)) (has-power (v - 1) k ∙ same? (v - 1) k
        (λ e. rw (eq-eqb (v - 1) k e) (sym (eq-eqb (k + 1) v (omega arith))))
        (λ n. let d = eqb-false (v - 1) k n in rw n (sym (ne_eqb (k + 1) v (λ e. d (omega arith))))))

-- BYDAY: each week is turned to begin with the weekday of the month's first day, and the weeks from the end begin with that of its last
module _ (days : ByDays) (l w : ℕ) (p : l ≤ 31) (q : w < 7) where
  pub by-days : (every front back : ℕ) → Marks 35 (λ k. has days.weekdays (k % 7)) every
      → Marks 35 (λ k. has (bit_or every days.ordinals) ((k + w) % 7 + 7 * (k / 7))) front
      → Marks 35 (λ k. has days.lastordinals ((k + (w + l) % 7) % 7 + 7 * (k / 7))) back
      → Marks l (λ k. ordinal_serves days l (k + 1) ((k + w) % 7)) (bit_or front (back / 2 ^ (35 - l)))
  unfolding ordinal_serves
  by-days every front back e f b = record { days = λ k h. there k h }
    where
      week : (k w : ℕ) → k < 31 → w < 7 → (k + w) % 7 + 7 * (k / 7) < 35
      week k w h q = omega arith

      weekday : (k w : ℕ) → ((k + w) % 7 + 7 * (k / 7)) % 7 ≡ (k + w) % 7
      weekday k w = omega arith

      last : (k l w : ℕ) → k < l → l ≤ 31 → (k + (35 - l) + (w + l) % 7) % 7 ≡ (k + w) % 7
      last k l w h p = omega arith

      lastweek : (k l : ℕ) → k < l → l ≤ 31 → (k + (35 - l)) / 7 ≡ 4 - (l - (k + 1)) / 7
      lastweek k l h p = omega arith

      day : (k : ℕ) → k + 1 - 1 ≡ k
      day k = omega arith

      there : (k : ℕ) → k < l → has (bit_or front (back / 2 ^ (35 - l))) k
          ≡ (has days.weekdays ((k + w) % 7) or (has days.ordinals ((k + w) % 7 + 7 * ((k + 1 - 1) / 7))
          or has days.lastordinals ((k + w) % 7 + 7 * (4 - (l - (k + 1)) / 7))))
      there k h =
          let g : has every ((k + w) % 7 + 7 * (k / 7)) ≡ has days.weekdays ((k + w) % 7) = e.days ((k + w) % 7 + 7 * (k / 7)) (week k w (omega arith) q) ∙ ap (has days.weekdays) (weekday k w) in
          let x : has front k ≡ (has days.weekdays ((k + w) % 7) or has days.ordinals ((k + w) % 7 + 7 * (k / 7))) = f.days k (omega arith) ∙ has-or every days.ordinals ((k + w) % 7 + 7 * (k / 7)) ∙ rw g in
          let y : has (back / 2 ^ (35 - l)) k ≡ has days.lastordinals ((k + (35 - l) + (w + l) % 7) % 7 + 7 * ((k + (35 - l)) / 7)) = has-shr back (35 - l) k ∙ b.days (k + (35 - l)) (omega arith) in
          let z : has (bit_or front (back / 2 ^ (35 - l))) k ≡ ((has days.weekdays ((k + w) % 7) or has days.ordinals ((k + w) % 7 + 7 * (k / 7))) or has days.lastordinals ((k + w) % 7 + 7 * (4 - (l - (k + 1)) / 7))) = has-or front (back / 2 ^ (35 - l)) k ∙ rw (x, y, last k l w h p, lastweek k l h p) in
          rw (day k) (z ∙ or_assoc (has days.weekdays ((k + w) % 7)) (has days.ordinals ((k + w) % 7 + 7 * (k / 7))) (has days.lastordinals ((k + w) % 7 + 7 * (4 - (l - (k + 1)) / 7))))

-- the days that serve, by which parts the rule has
module _ (rule : Rule) (v l w : ℕ) (r : ℕ) where
  pub by-day : rule.by.day ≡ true → Marks l (λ k. ordinal_serves rule.days l (k + 1) ((k + w) % 7)) r → Marks l (serves_in_month rule v l w) r
  unfolding serves_in_month day_serves
  by-day e m = record { days = λ k h. rw e (m.days k h) }

  module _ (n : rule.by.day ≡ false) where
    pub by-month-day : rule.by.monthday ≡ true → Marks l (λ k. month_day_serves rule.days l (k + 1)) r → Marks l (serves_in_month rule v l w) r
    unfolding serves_in_month day_serves
    by-month-day e m = record { days = λ k h. rw (n, e) (m.days k h) }

    pub by-start : rule.by.monthday ≡ false → l ≤ 31 → Marks 31 (λ k. eqb (k + 1) v) r → Marks l (serves_in_month rule v l w) r
    unfolding serves_in_month day_serves
    by-start e p m = record { days = λ k h. rw (n, e) (m.days k (omega arith)) }

-- and no days behind the month
pub marks-only : (l : ℕ) (p : ℕ → Bool) (r : ℕ) → l ≤ 31 → Marks l p r → MarksOnly l p (r % ((1 * 2 ^ l) % 2 ^ 64))
marks-only l p r q m = rw (one_shifted l (omega arith)) (record { days = λ k h. has-mod r l k h ∙ m.days k h; small = mod-lt r (pow_pos l) })

-- BYDAY names no day
module _ (r : Rule) where
  pub no-by-day : r.by.day ≡ false → false ≡ names_none r
  unfolding names_none
  no-by-day e = rw e

  module _ (d : r.by.day ≡ true) where
    pub some-weekday : (r.days.weekdays % 128 ≡ 0 → ⊥) → false ≡ names_none r
    unfolding names_none
    some-weekday n = rw (d, ne_eqb _ _ n)

    module _ (w : r.days.weekdays % 128 ≡ 0) where
      pub some-ordinal : (r.days.ordinals % 34359738368 ≡ 0 → ⊥) → false ≡ names_none r
      unfolding names_none
      some-ordinal n = rw (d, eq-eqb _ _ w, ne_eqb _ _ n)

      pub some-last : r.days.ordinals % 34359738368 ≡ 0 → eqb (r.days.lastordinals % 34359738368) 0 ≡ names_none r
      unfolding names_none
      some-last o = rw (d, eq-eqb _ _ w, eq-eqb _ _ o)
