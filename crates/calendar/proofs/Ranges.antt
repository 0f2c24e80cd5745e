-- A test that computes to true for each number below a bound holds of each of them.
use Prim.Native.Nat.{ℕ, zero, suc, ◌≤◌, ◌<◌}
use mathlib.Core.Path.{◌≡◌, ap, ◌∙◌}
use mathlib.Core.Bool.{Bool, true}
use native.Mathlib.Omega.{arith}
use borrow.Author.Tests.{eqb-true, eqb-false, leb-true}
use lib.Dec.{eqb, leb}
use Rattle.octets.specs.Basics.{◌and◌}
use Rattle.octets.proofs.Cases.{cases, both}

-- the test passes of each number below n
unfoldable pub below : (ℕ → Bool) → ℕ → Bool
below p zero = true
below p (suc n) = p n and below p n

pub each_below : (p : ℕ → Bool) (n : ℕ) → below p n ≡ true → (k : ℕ) → k < n → p k ≡ true
unfolding below
each_below p zero h k l = absurd (omega arith)
each_below p (suc n) h k l =
    let b = both (p n) (below p n) h in
    cases (eqb k n)
    (λ e. ap p (eqb-true k n e) ∙ b.0)
    (λ e. let d = eqb-false k n e in each_below p n b.1 k (omega arith))

-- two functions that agree at each number below n by computation
abbrev pub alike : (ℕ → ℕ) → (ℕ → ℕ) → ℕ → Bool
alike f g i = eqb (f i) (g i)

pub agree : (f g : ℕ → ℕ) (n : ℕ) → below (alike f g) n ≡ true → (k : ℕ) → k < n → f k ≡ g k
agree f g n h k l = eqb-true (f k) (g k) (each_below (alike f g) n h k l)

-- and an order
abbrev pub ordered : (ℕ → ℕ) → (ℕ → ℕ) → ℕ → Bool
ordered f g i = leb (f i) (g i)

pub order : (f g : ℕ → ℕ) (n : ℕ) → below (ordered f g) n ≡ true → (k : ℕ) → k < n → f k ≤ g k
order f g n h k l = leb-true (f k) (g k) (each_below (ordered f g) n h k l)
