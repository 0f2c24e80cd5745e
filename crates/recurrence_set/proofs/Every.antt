-- One of every so many: those between two of them may be jumped over, and how many there are up to an end.
use Prim.Native.Nat.{ℕ, zero, suc, ◌+◌, ◌-◌, ◌/◌, ◌%◌, ◌≤◌, ◌<◌}
use mathlib.Core.Path.{◌≡◌, sym, ap, ◌∙◌}
use mathlib.Core.Bool.{Bool, true, false}
use mathlib.Core.List.{List, ◌∷◌}
use native.Mathlib.Omega.{arith}
use native.Mathlib.Numerals.{add-one}
use native.Mathlib.Nat.{add-mod, mod-add-mod, mod-eq_of_lt, mod-lt, mod_self, add-mod_right, div-eq_of_lt, add-div_right}
use native.Mathlib.Decide.{dec_le}
use borrow.Author.Tests.{eq-eqb, ne_eqb}
use lib.ListN.{length}
use Rattle.calendar.specs.declared.rules.Rule.{Rule}
use Rattle.recurrence_set.specs.Lists.{due}
use Rattle.recurrence_set.specs.Meets.{counts, every_meets}
use Rattle.recurrence_set.specs.Searches.{First}
use Rattle.recurrence_set.proofs.Due.{past, passes-first, skip, fewer, first-here, first-at}

pub counts-here : (i x : ℕ) → x % i ≡ 0 → counts i x ≡ true
unfolding counts
counts-here i x e = eq-eqb (x % i) 0 e

pub counts-not : (i x : ℕ) → (x % i ≡ 0 → ⊥) → counts i x ≡ false
unfolding counts
counts-not i x n = ne_eqb (x % i) 0 n

-- what is left over grows one by one up to the next that counts
later : (i x j : ℕ) → x % i + j < i → (x + j) % i ≡ x % i + j
later i x j h = add-mod x j i ∙ ap (λ (n : ℕ). (x % i + n) % i) (mod-eq_of_lt (omega arith)) ∙ mod-eq_of_lt h

-- behind x none counts before the next
pub counts-between : (i x y : ℕ) → 1 ≤ i → x < y → y < x + (i - x % i) → counts i y ≡ false
counts-between i x y p l u =
    let m = mod-lt x p in
    let e : y ≡ x + (y - x) = omega arith in
    let q : y % i ≡ x % i + (y - x) = ap (λ (k : ℕ). k % i) e ∙ later i x (y - x) (omega arith) in
    counts-not i y (λ z. omega arith)

pub counts-next : (i x : ℕ) → 1 ≤ i → counts i (x + (i - x % i)) ≡ true
counts-next i x p =
    let m = mod-lt x p in
    let e : x % i + (i - x % i) ≡ i = omega arith in
    counts-here i (x + (i - x % i)) (sym (mod-add-mod x i (i - x % i)) ∙ ap (λ (n : ℕ). n % i) e ∙ mod_self i)

pub left_over : (i x : ℕ) → 1 ≤ i → x % i ≤ i
left_over i x p = let m = mod-lt x p in omega arith

-- HOURLY and DAILY: the first place from a on
module _ (r : Rule) (s a : ℕ) where
  pub every_here : (a - s) % r.interval ≡ 0 → (l : ℕ) → First (every_meets r s) l a a
  unfolding every_meets
  every_here e l = first-here _ l a (counts-here r.interval (a - s) e)

  pub every-next : 1 ≤ r.interval → s ≤ a → ((a - s) % r.interval ≡ 0 → ⊥)
      → (l : ℕ) → First (every_meets r s) l a (a + (r.interval - (a - s) % r.interval))
  unfolding every_meets
  every-next p h n l =
      let m : (a - s) % r.interval < r.interval = mod-lt (a - s) p in
      let e : a + (r.interval - (a - s) % r.interval) - s ≡ a - s + (r.interval - (a - s) % r.interval) = omega arith in
      first-at _ l a _ (omega arith) (λ k x y z. jumped k x (omega arith) (dec_le k a))
      (ap (counts r.interval) e ∙ counts-next r.interval (a - s) p)
    where
      jumped : (k : ℕ) → a ≤ k → k < a + (r.interval - (a - s) % r.interval) → Dec (k ≤ a) → counts r.interval (k - s) ≡ false
      jumped k x y (yes g) =
          let q : k ≡ a = omega arith in
          rw q (counts-not r.interval (a - s) n)
      jumped k x y (no g) = counts-between r.interval (a - s) (k - s) p (omega arith) (omega arith)

quotient-less : (x i : ℕ) → 1 ≤ i → i ≤ x → x / i ≡ (x - i) / i + 1
quotient-less x i p h =
    let e : x ≡ x - i + i = omega arith in
    ap (λ (n : ℕ). n / i) e ∙ add-div_right (x - i) p

-- from a on and below l, a being one of every i: the next of them, and how many there are
module _ (r : Rule) (s l : ℕ) (p : 1 ≤ r.interval) where
  pub every_more : (a : ℕ) → (a - s) % r.interval ≡ 0 → s ≤ a → a < l
      → due (every_meets r s) l a ≡ a ∷ due (every_meets r s) l (a + r.interval)
  every_more a e h g =
      passes-first (every_meets r s) l a g (unfold every_meets in counts-here r.interval (a - s) e)
      ∙ ap (λ (xs : List ℕ). a ∷ xs) (skip (every_meets r s) l (a + 1) (a + r.interval) (omega arith) (λ k x y z. unfold every_meets in between k x y))
    where
      between : (k : ℕ) → a + 1 ≤ k → k < a + r.interval → counts r.interval (k - s) ≡ false
      between k x y = counts-between r.interval (a - s) (k - s) p (omega arith) (omega arith)

  pub every-again : (a : ℕ) → (a - s) % r.interval ≡ 0 → s ≤ a → (a + r.interval - s) % r.interval ≡ 0
  every-again a e h =
      let q : a + r.interval - s ≡ a - s + r.interval = omega arith in
      ap (λ (n : ℕ). n % r.interval) q ∙ add-mod_right (a - s) r.interval ∙ e

  count-up : (n a : ℕ) → l - a ≤ n → (a - s) % r.interval ≡ 0 → s ≤ a → a < l
      → length (due (every_meets r s) l a) ≡ (l - a - 1) / r.interval + 1
  count-up zero a b e h g = absurd (omega arith)
  count-up (suc n) a b e h g =
      ap length (every_more a e h g) ∙ sym (add-one (length (due (every_meets r s) l (a + r.interval))))
      ∙ ap (λ (x : ℕ). x + 1) (rest (dec_le l (a + r.interval)) (λ q. count-up n (a + r.interval) (omega arith) (every-again a e h) (omega arith) q))
    where
      rest : Dec (l ≤ a + r.interval)
          → (a + r.interval < l → length (due (every_meets r s) l (a + r.interval)) ≡ (l - (a + r.interval) - 1) / r.interval + 1)
          → length (due (every_meets r s) l (a + r.interval)) ≡ (l - a - 1) / r.interval
      rest (yes q) f = ap length (past (every_meets r s) l (a + r.interval) q) ∙ sym (div-eq_of_lt (omega arith))
      rest (no q) f =
          let d : l - (a + r.interval) - 1 ≡ l - a - 1 - r.interval = omega arith in
          f (omega arith) ∙ ap (λ (x : ℕ). x / r.interval + 1) d ∙ sym (quotient-less (l - a - 1) r.interval p (omega arith))

pub every-count : (r : Rule) (s l a : ℕ) → 1 ≤ r.interval → (a - s) % r.interval ≡ 0 → s ≤ a → a < l
    → length (due (every_meets r s) l a) ≡ (l - a - 1) / r.interval + 1
every-count r s l a p e h g = count-up r s l p (l - a) a (omega arith) e h g

-- Where one that passes is followed by another so many further on, there are at least as many as such steps.
module _ (p : ℕ → Bool) (l step : ℕ) (h : 1 ≤ step) where
  sure-up : (n a : ℕ) → l - a ≤ n → ((k : ℕ) → a ≤ k → p k ≡ true → p (k + step) ≡ true) → p a ≡ true → a < l → (l - a - 1) / step + 1 ≤ length (due p l a)
  sure-up zero a b f e g = absurd (omega arith)
  sure-up (suc n) a b f e g =
      let o : length (due p l a) ≡ suc (length (due p l (a + 1))) = ap length (passes-first p l a g e) in
      let j : a + 1 + (step - 1) ≡ a + step = omega arith in
      let w : length (due p l (a + step)) ≤ length (due p l (a + 1)) = rw j at (fewer p l (step - 1) (a + 1)) in
      rest (dec_le l (a + step)) o w (λ q. sure-up n (a + step) (omega arith) (λ k x y. f k (omega arith) y) (f a (omega arith) e) q)
    where
      rest : Dec (l ≤ a + step) → length (due p l a) ≡ suc (length (due p l (a + 1))) → length (due p l (a + step)) ≤ length (due p l (a + 1))
          → (a + step < l → (l - (a + step) - 1) / step + 1 ≤ length (due p l (a + step))) → (l - a - 1) / step + 1 ≤ length (due p l a)
      rest (yes q) o w i = let z : (l - a - 1) / step ≡ 0 = div-eq_of_lt (omega arith) in rw z (omega arith)
      rest (no q) o w i =
          let d : l - (a + step) - 1 ≡ l - a - 1 - step = omega arith in
          let u = rw d at (i (omega arith)) in
          rw (quotient-less (l - a - 1) step h (omega arith)) (omega arith)

  pub steps-sure : (a : ℕ) → ((k : ℕ) → a ≤ k → p k ≡ true → p (k + step) ≡ true) → p a ≡ true → a < l → (l - a - 1) / step + 1 ≤ length (due p l a)
  steps-sure a f e g = sure-up (l - a) a (omega arith) f e g
