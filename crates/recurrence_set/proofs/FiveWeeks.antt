-- Five weeks in a set: seven days repeated in each of them, and each of them turned. The rules of the factor and of the masks are computed tests.
use Prim.Native.Nat.{ℕ, ◌+◌, ◌-◌, ◌*◌, ◌/◌, ◌%◌, ◌^◌, ◌≤◌, ◌<◌}
use mathlib.Core.Path.{◌≡◌, refl, sym, ap, ◌∙◌}
use mathlib.Core.Bool.{Bool, true, false, not}
use native.Mathlib.Omega.{arith}
use borrow.Author.Tests.{ltb-true, ltb-false}
use lib.Dec.{eqb, ltb}
use lib.Bits.{bit_and, bit_or}
use Rattle.octets.specs.Basics.{pick, ◌and◌, ◌or◌}
use Rattle.octets.proofs.Cases.{cases, and-true-right}
use Rattle.calendar.specs.Sets.{has}
use Rattle.calendar.proofs.Ranges.{below, each_below, agree, order, alike}
use Rattle.calendar.proofs.SetLaws.{has-or, has-none}
use Rattle.recurrence_set.proofs.SetBits.{has-and, has-shr, has-shl, has-mod}

-- the first day of each of five weeks
abbrev pub firsts : ℕ
firsts = 270549121

abbrev bit : ℕ → ℕ → ℕ
bit a k = a / 2 ^ k % 2

repeated : (a : ℕ) → a < 128 → (k : ℕ) → k < 35 → has (a * firsts) k ≡ has a (k % 7)
unfolding has below
repeated a h k l =
    ap (λ (x : ℕ). eqb x 1) (agree (bit (a * firsts)) (λ (i : ℕ). bit a (i % 7)) 35
    (each_below (λ (n : ℕ). below (alike (bit (n * firsts)) (λ (i : ℕ). bit n (i % 7))) 35) 128 refl a h) k l)

pub each-week : (a k : ℕ) → k < 35 → has (a % 128 * firsts) k ≡ has a (k % 7)
each-week a k h = repeated (a % 128) (omega arith) k h ∙ has-mod a 7 (k % 7) (omega arith)

-- the days of each week that lie w or more before its end, and the others
abbrev pub front : ℕ → ℕ
front w = ((1 * 2 ^ (7 - w)) % 2 ^ 64 - 1) * firsts

abbrev pub back : ℕ → ℕ
back w = 127 * firsts - front w

pub power-there : (w : ℕ) → w < 7 → 1 ≤ (1 * 2 ^ (7 - w)) % 2 ^ 64
unfolding below
power-there w h = order (λ (i : ℕ). 1) (λ (i : ℕ). (1 * 2 ^ (7 - i)) % 2 ^ 64) 7 refl w h

pub front-small : (w : ℕ) → w < 7 → front w ≤ 127 * firsts
unfolding below
front-small w h = order front (λ (i : ℕ). 127 * firsts) 7 refl w h

front-has : (w : ℕ) → w < 7 → (k : ℕ) → k < 35 → has (front w) k ≡ ltb (k % 7 + w) 7
unfolding has below
front-has w h k l =
    ap (λ (x : ℕ). eqb x 1) (agree (bit (front w)) (λ (i : ℕ). pick (ltb (i % 7 + w) 7) 1 0) 35
    (each_below (λ (n : ℕ). below (alike (bit (front n)) (λ (i : ℕ). pick (ltb (i % 7 + n) 7) 1 0)) 35) 7 refl w h) k l)
    ∙ says (ltb (k % 7 + w) 7)
  where
    says : (b : Bool) → eqb (pick b 1 0) 1 ≡ b
    says true = refl
    says false = refl

back-has : (w : ℕ) → w < 7 → (k : ℕ) → k < 35 → has (back w) k ≡ not (ltb (k % 7 + w) 7)
unfolding has below
back-has w h k l =
    ap (λ (x : ℕ). eqb x 1) (agree (bit (back w)) (λ (i : ℕ). pick (ltb (i % 7 + w) 7) 0 1) 35
    (each_below (λ (n : ℕ). below (alike (bit (back n)) (λ (i : ℕ). pick (ltb (i % 7 + n) 7) 0 1)) 35) 7 refl w h) k l)
    ∙ says (ltb (k % 7 + w) 7)
  where
    says : (b : Bool) → eqb (pick b 0 1) 1 ≡ not b
    says true = refl
    says false = refl

-- of no day there is none to turn
pub turned_none : (a j k : ℕ) → a ≡ 0 → has 0 k ≡ has a j
turned_none a j k e = has-none k ∙ sym (has-none j) ∙ ap (λ (x : ℕ). has x j) (sym e)

-- the day k of a week turned by w
pub turned-day : (a w k : ℕ) → w < 7 → k < 35
    → has (bit_or (bit_and (a / 2 ^ w) (front w)) (bit_and ((a * 2 ^ (7 - w)) % 2 ^ 64) (back w))) k ≡ has a ((k + w) % 7 + 7 * (k / 7))
turned-day a w k h l =
    has-or (bit_and (a / 2 ^ w) (front w)) (bit_and ((a * 2 ^ (7 - w)) % 2 ^ 64) (back w)) k
    ∙ rw (has-and (a / 2 ^ w) (front w) k, has-and ((a * 2 ^ (7 - w)) % 2 ^ 64) (back w) k, front-has w h k l, back-has w h k l)
    (cases (ltb (k % 7 + w) 7)
    (λ e.
    let p = ltb-true (k % 7 + w) 7 e in
    let q : k + w ≡ (k + w) % 7 + 7 * (k / 7) = omega arith in
    rw e (kept (has (a / 2 ^ w) k) (has ((a * 2 ^ (7 - w)) % 2 ^ 64) k) ∙ has-shr a w k ∙ ap (has a) q))
    (λ e.
    let p = ltb-false (k % 7 + w) 7 e in
    let q : k - (7 - w) ≡ (k + w) % 7 + 7 * (k / 7) = omega arith in
    rw e (moved (has (a / 2 ^ w) k) (has ((a * 2 ^ (7 - w)) % 2 ^ 64) k) ∙ has-shl a (7 - w) 64 k (omega arith) (omega arith) ∙ ap (has a) q)))
  where
    kept : (x y : Bool) → ((x and true) or (y and false)) ≡ x
    kept true y = refl
    kept false true = refl
    kept false false = refl

    moved : (x y : Bool) → ((x and false) or (y and true)) ≡ y
    moved true y = and-true-right y
    moved false y = and-true-right y
