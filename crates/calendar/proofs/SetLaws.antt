-- Which numbers a set has: one that is joined of two, one number alone, none, and a set with one number more.
use Prim.Native.Nat.{ℕ, zero, suc, ◌+◌, ◌-◌, ◌*◌, ◌/◌, ◌%◌, ◌^◌, ◌≤◌, ◌<◌, max}
use mathlib.Core.Path.{◌≡◌, refl, ap, ◌∙◌}
use mathlib.Core.Bool.{Bool, false}
use native.Mathlib.Omega.{arith}
use native.Mathlib.Nat.{div-eq_of_lt, zero-div}
use native.Mathlib.Decide.{dec_le}
use borrow.Author.Tests.{eqb-false}
use lib.Dec.{eqb}
use lib.Bits.{bit_or, or_step, or_shr}
use lib.Pow.{pow-lt, pow-add, shl-shr, shl_exact}
use Rattle.octets.specs.Basics.{◌or◌}
use Rattle.octets.proofs.Cases.{same?, itself}
use Rattle.calendar.specs.Sets.{has, with}

-- the last binary digit
bit-or : (a b : ℕ) → bit_or a b % 2 ≡ max (a % 2) (b % 2)
bit-or a b = rw (or_step a b) (odd (bit_or (a / 2) (b / 2)) (a % 2) (b % 2) (omega arith) (omega arith))
  where
    odd : (q x y : ℕ) → x < 2 → y < 2 → (q * 2 + max x y) % 2 ≡ max x y
    odd q x y h k = omega arith

or-digit : (x y : ℕ) → x < 2 → y < 2 → eqb (max x y) 1 ≡ (eqb x 1 or eqb y 1)
or-digit zero zero h k = refl
or-digit zero (suc zero) h k = refl
or-digit zero (suc (suc y)) h k = absurd (omega arith)
or-digit (suc zero) zero h k = refl
or-digit (suc zero) (suc zero) h k = refl
or-digit (suc zero) (suc (suc y)) h k = absurd (omega arith)
or-digit (suc (suc x)) y h k = absurd (omega arith)

-- two sets joined
pub has-or : (a b k : ℕ) → has (bit_or a b) k ≡ (has a k or has b k)
unfolding has
has-or a b k = rw (or_shr a b k, bit-or (a / 2 ^ k) (b / 2 ^ k)) (or-digit (a / 2 ^ k % 2) (b / 2 ^ k % 2) (omega arith) (omega arith))

-- the binary digits of 2 ^ k
same_bit : (k : ℕ) → 2 ^ k / 2 ^ k % 2 ≡ 1
same_bit k = let e : 1 * 2 ^ k ≡ 2 ^ k = omega arith in rw (rw e at (shl-shr 1 k))

other-bit : (k j : ℕ) → (k ≡ j → ⊥) → 2 ^ k / 2 ^ j % 2 ≡ 0
other-bit k j n = go (dec_le k j)
  where
    even : (i : ℕ) → 2 ^ suc i % 2 ≡ 0
    even i = omega arith

    go : Dec (k ≤ j) → 2 ^ k / 2 ^ j % 2 ≡ 0
    go (yes h) = rw (div-eq_of_lt (pow-lt {i = k} {j = j} (omega arith)))
    go (no h) =
        let e : k ≡ suc (k - j - 1) + j = omega arith in
        let f : 2 ^ k / 2 ^ j ≡ 2 ^ suc (k - j - 1) = ap (λ (i : ℕ). 2 ^ i / 2 ^ j) e ∙ ap (λ (x : ℕ). x / 2 ^ j) (pow-add 2 (suc (k - j - 1)) j) ∙ shl-shr (2 ^ suc (k - j - 1)) j in
        rw f (even (k - j - 1))

-- 2 ^ k is the set of k alone
pub has-power : (k j : ℕ) → has (2 ^ k) j ≡ eqb k j
unfolding has
has-power k j = same? k j
    (λ e. rw (e, same_bit j, itself j))
    (λ n. rw (n, other-bit k j (eqb-false k j n)))

-- the set with k has what it had, and k
pub has-with : (s k j : ℕ) → has (with s k) j ≡ (has s j or eqb k j)
unfolding with
has-with s k j = has-or s (2 ^ k) j ∙ ap (λ (b : Bool). has s j or b) (has-power k j)

-- the empty set
pub has-none : (j : ℕ) → has 0 j ≡ false
unfolding has
has-none j = rw (zero-div (2 ^ j))

-- 1 moved up by k digits
pub one-moved : (k : ℕ) → k < 64 → (1 * 2 ^ k) % 2 ^ 64 ≡ 2 ^ k
one-moved k h = shl_exact {a = 1} 1 k 64 (omega arith) (omega arith) ∙ (let e : 1 * 2 ^ k ≡ 2 ^ k = omega arith in e)
