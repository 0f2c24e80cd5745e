-- Which numbers a set has, where the set is joined, moved, cut off or looked through for its least number.
use Prim.Native.Nat.{ℕ, zero, suc, ◌+◌, ◌-◌, ◌*◌, ◌/◌, ◌%◌, ◌^◌, ◌≤◌, ◌<◌, min}
use mathlib.Core.Path.{◌≡◌, refl, sym, ap, ◌∙◌}
use mathlib.Core.Bool.{true, false}
use native.Mathlib.Omega.{arith}
use native.Mathlib.Nat.{div-eq_of_lt, div-one, mod-lt, add_comm, lt_of_lt_of_le, mul_assoc}
use native.Mathlib.Decide.{dec_le}
use native.Mathlib.Numerals.{one-add}
use borrow.Author.Tests.{eq-eqb, eqb-false}
use lib.Dec.{eqb}
use lib.Bits.{bit_and, and_step, and_shr, shifted_even}
use lib.Pow.{pow_pos, pow_mono, pow-add, shr_lt, shl-shr, shr-shr, field, mod-mod-pow}
use lib.Count.{under, count_trailing_zeros, trailing_le}
use Rattle.octets.specs.Basics.{◌and◌}
use Rattle.octets.proofs.Cases.{never}
use Rattle.calendar.specs.Sets.{has}
use Rattle.recurrence_set.specs.Searches.{Least}

-- what is in both of two sets
and-lowest : (a b : ℕ) → bit_and a b % 2 ≡ min (a % 2) (b % 2)
and-lowest a b = rw (and_step a b) (odd (bit_and (a / 2) (b / 2)) (a % 2) (b % 2) (omega arith) (omega arith))
  where
    odd : (q x y : ℕ) → x < 2 → y < 2 → (q * 2 + min x y) % 2 ≡ min x y
    odd q x y h k = omega arith

and-digit : (x y : ℕ) → x < 2 → y < 2 → eqb (min x y) 1 ≡ (eqb x 1 and eqb y 1)
and-digit zero zero h k = refl
and-digit zero (suc zero) h k = refl
and-digit zero (suc (suc y)) h k = absurd (omega arith)
and-digit (suc zero) zero h k = refl
and-digit (suc zero) (suc zero) h k = refl
and-digit (suc zero) (suc (suc y)) h k = absurd (omega arith)
and-digit (suc (suc x)) y h k = absurd (omega arith)

pub has-and : (a b k : ℕ) → has (bit_and a b) k ≡ (has a k and has b k)
unfolding has
has-and a b k = rw (and_shr a b k, and-lowest (a / 2 ^ k) (b / 2 ^ k)) (and-digit (a / 2 ^ k % 2) (b / 2 ^ k % 2) (omega arith) (omega arith))

-- a set moved down by w
pub has-shr : (a w k : ℕ) → has (a / 2 ^ w) k ≡ has a (k + w)
unfolding has
has-shr a w k = ap (λ (x : ℕ). eqb (x % 2) 1) (shr-shr a w k ∙ ap (λ (i : ℕ). a / 2 ^ i) (add_comm w k))

-- the numbers of a set below n
pub has-mod : (a n k : ℕ) → k < n → has (a % 2 ^ n) k ≡ has a k
unfolding has
has-mod a n k h =
    let e : n ≡ n - k - 1 + 1 + k = omega arith in
    ap (λ (x : ℕ). eqb (x % 2) 1) (ap (λ (i : ℕ). a % 2 ^ i / 2 ^ k) e ∙ field a (n - k - 1 + 1) k)
    ∙ ap (λ (x : ℕ). eqb x 1) (mod-mod-pow (a / 2 ^ k) (n - k - 1) 1)

-- a set of numbers below n has no other
pub has_above : (a n k : ℕ) → a < 2 ^ n → n ≤ k → has a k ≡ false
unfolding has
has_above a n k h l = rw (div-eq_of_lt (lt_of_lt_of_le h (pow_mono l)))

pub has-mod-above : (a n k : ℕ) → n ≤ k → has (a % 2 ^ n) k ≡ false
has-mod-above a n k l = has_above (a % 2 ^ n) n k (mod-lt a (pow_pos n)) l

-- a set moved up by w
pub has-up : (a w k : ℕ) → w ≤ k → has (a * 2 ^ w) k ≡ has a (k - w)
unfolding has
has-up a w k h =
    let e : k ≡ w + (k - w) = omega arith in
    ap (λ (x : ℕ). eqb (x % 2) 1)
    (ap (λ (i : ℕ). a * 2 ^ w / 2 ^ i) e ∙ sym (shr-shr (a * 2 ^ w) w (k - w)) ∙ ap (λ (x : ℕ). x / 2 ^ (k - w)) (shl-shr a w))

pub has-up-below : (a w k : ℕ) → k < w → has (a * 2 ^ w) k ≡ false
unfolding has
has-up-below a w k h =
    let e : w ≡ suc (w - k - 1) + k = omega arith in
    let m : a * 2 ^ w ≡ a * 2 ^ suc (w - k - 1) * 2 ^ k =
    ap (λ (i : ℕ). a * 2 ^ i) e ∙ ap (λ (x : ℕ). a * x) (pow-add 2 (suc (w - k - 1)) k) ∙ sym (mul_assoc a (2 ^ suc (w - k - 1)) (2 ^ k)) in
    rw (m, shl-shr (a * 2 ^ suc (w - k - 1)) k, shifted_even a (w - k - 1))

-- and cut off behind n
pub has-shl : (a w n k : ℕ) → w ≤ k → k < n → has ((a * 2 ^ w) % 2 ^ n) k ≡ has a (k - w)
has-shl a w n k h l = has-mod (a * 2 ^ w) n k l ∙ has-up a w k h

pub has-shl-below : (a w n k : ℕ) → k < w → k < n → has ((a * 2 ^ w) % 2 ^ n) k ≡ false
has-shl-below a w n k h l = has-mod (a * 2 ^ w) n k l ∙ has-up-below a w k h

-- the lowest number, and those behind it
has-lowest : (a : ℕ) → has a 0 ≡ eqb (a % 2) 1
unfolding has
has-lowest a = rw (div-one a)

has-next : (a k : ℕ) → has a (suc k) ≡ has (a / 2) k
unfolding has
has-next a k = ap (λ (x : ℕ). eqb (x % 2) 1) (ap (λ (i : ℕ). a / 2 ^ i) (sym (one-add k)) ∙ sym (shr-shr a 1 k))

-- the count of the lowest digits that are 0 is the least number of a set
none-under : (b t a : ℕ) → a % 2 ≡ b → ((k : ℕ) → k < t → has (a / 2) k ≡ false) → (k : ℕ) → k < under b t → has a k ≡ false
none-under zero t a e f zero h = has-lowest a ∙ rw e
none-under zero t a e f (suc k) h = has-next a k ∙ f k (omega arith)
none-under (suc b) t a e f k h = absurd (omega arith)

there-under : (b t d a : ℕ) → a % 2 ≡ b → (t < d → has (a / 2) t ≡ true) → under b t < suc d → has a (under b t) ≡ true
there-under zero t d a e f h = has-next a t ∙ f (omega arith)
there-under (suc b) t d a e f h = has-lowest a ∙ eq-eqb (a % 2) 1 (omega arith)

none-zeros : (d a k : ℕ) → k < count_trailing_zeros d a → has a k ≡ false
unfolding count_trailing_zeros
none-zeros zero a k h = absurd (omega arith)
none-zeros (suc d) a k h = none-under (a % 2) (count_trailing_zeros d (a / 2)) a refl (none-zeros d (a / 2)) k h

there-zeros : (d a : ℕ) → count_trailing_zeros d a < d → has a (count_trailing_zeros d a) ≡ true
unfolding count_trailing_zeros
there-zeros zero a h = absurd (omega arith)
there-zeros (suc d) a h = there-under (a % 2) (count_trailing_zeros d (a / 2)) d a refl (there-zeros d (a / 2)) h

pub least-of : (a : ℕ) → Least a (count_trailing_zeros 64 a)
least-of a = record { most = trailing_le 64 a; none = none-zeros 64 a; there = there-zeros 64 a }

-- a set of numbers below n that has none of them is empty
pub empty : (n a : ℕ) → a < 2 ^ n → ((k : ℕ) → k < n → has a k ≡ false) → a ≡ 0
empty zero a h f = omega arith
empty (suc n) a h f =
    let z = empty n (a / 2) (shr_lt n 1 (rw (sym (one_more n)) at h)) (λ k l. sym (has-next a k) ∙ f (suc k) (omega arith)) in
    let o = eqb-false (a % 2) 1 (sym (has-lowest a) ∙ f 0 (omega arith)) in
    let b : a % 2 ≡ 0 = even (a % 2) (omega arith) o in
    omega arith
  where
    one_more : (n : ℕ) → n + 1 ≡ suc n
    one_more n = omega arith

    even : (x : ℕ) → x < 2 → (x ≡ 1 → ⊥) → x ≡ 0
    even x h n = omega arith

-- a set that is not empty has its least number where its numbers are
pub least-below : {a r : ℕ} (n : ℕ) → Least a r → n ≤ 64 → a < 2 ^ n → (a ≡ 0 → ⊥) → r < n
least-below {a} {r} n s l h f = go (dec_le n r)
  where
    go : Dec (n ≤ r) → r < n
    go (yes g) = absurd (f (empty n a h (λ k q. s.none k (omega arith))))
    go (no g) = omega arith

pub least-some : {a r : ℕ} → Least a r → (a ≡ 0 → ⊥) → a < 2 ^ 64 → r < 64
least-some s f h = least-below 64 s (omega arith) h f

-- and no number of the set is less
pub least-least : {a r : ℕ} (k : ℕ) → Least a r → has a k ≡ true → r ≤ k
least-least {a} {r} k s h = go (dec_le r k)
  where
    go : Dec (r ≤ k) → r ≤ k
    go (yes g) = g
    go (no g) = never h (s.none k (omega arith))
