-- Case analysis on a test, its outcome kept as an equation; what connectives and tests over lists tell.
use Prim.Native.Nat.{ℕ}
use mathlib.Core.Path.{◌≡◌, refl, sym, subst, ap, ◌∙◌}
use mathlib.Core.Bool.{Bool, true, false, false≢true, true≢false}
use mathlib.Core.List.{List, [], ◌∷◌, ◌++◌}
use lib.Dec.{eqb, T, eqb→eq}
use borrow.Author.Tests.{eq-eqb}
use Rattle.octets.specs.Basics.{pick, ◌and◌, ◌or◌, all, any, All}

-- the test passes, or it fails
pub cases {ℓ} : {P : Type ℓ} (b : Bool) → (b ≡ true → P) → (b ≡ false → P) → P
cases true f g = f refl
cases false f g = g refl

-- x is k, or the test says no
pub same? {ℓ} : {P : Type ℓ} (x k : ℕ) → (x ≡ k → P) → (eqb x k ≡ false → P) → P
same? x k f g = cases (eqb x k) (λ e. f (eqb→eq x k (subst T (sym e) tt))) g

-- a test does not both pass and fail
pub never {ℓ} : {P : Type ℓ} {b : Bool} → b ≡ true → b ≡ false → P
never h n = absurd (true≢false (sym h ∙ n))

pub itself : (x : ℕ) → eqb x x ≡ true
itself x = eq-eqb x x refl

-- both tests of `and` pass
pub both : (a b : Bool) → (a and b) ≡ true → (a ≡ true) × (b ≡ true)
both true b e = (refl, e)
both false b e = absurd (false≢true e)

pub and-true : {a b : Bool} → a ≡ true → b ≡ true → (a and b) ≡ true
and-true e f = rw (e, f)

-- a failed `and` fails at the first test, or else at the second
pub not-both {ℓ} : {P : Type ℓ} (a b : Bool) → (a and b) ≡ false → (a ≡ false → P) → (b ≡ false → P) → P
not-both true b e f g = g e
not-both false b e f g = f refl

-- `or` passes at the first test, or else at the second
pub either {ℓ} : {P : Type ℓ} (a b : Bool) → (a or b) ≡ true → (a ≡ true → P) → (b ≡ true → P) → P
either true b e f g = f refl
either false b e f g = g e

pub or-first : {a : Bool} (b : Bool) → a ≡ true → (a or b) ≡ true
or-first b e = rw e

pub or-second : (a : Bool) {b : Bool} → b ≡ true → (a or b) ≡ true
or-second true e = refl
or-second false e = e

-- both tests of a failed `or` fail
pub neither : (a b : Bool) → (a or b) ≡ false → (a ≡ false) × (b ≡ false)
neither true b e = absurd (true≢false e)
neither false b e = (refl, e)

pub or-false : {a b : Bool} → a ≡ false → b ≡ false → (a or b) ≡ false
or-false e f = rw (e, f)

pub and_assoc : (a b c : Bool) → ((a and b) and c) ≡ (a and (b and c))
and_assoc true b c = refl
and_assoc false b c = refl

pub or_assoc : (a b c : Bool) → ((a or b) or c) ≡ (a or (b or c))
or_assoc true b c = refl
or_assoc false b c = refl

pub and-swap : (a b c d : Bool) → ((a and b) and (c and d)) ≡ ((a and c) and (b and d))
and-swap true true c d = refl
and-swap true false true d = refl
and-swap true false false d = refl
and-swap false b c d = refl

pub and-true-right : (a : Bool) → (a and true) ≡ a
and-true-right true = refl
and-true-right false = refl

pub and-false-right : (a : Bool) → (a and false) ≡ false
and-false-right true = refl
and-false-right false = refl

pub or-false-right : (a : Bool) → (a or false) ≡ a
or-false-right true = refl
or-false-right false = refl

pub or_true_right : (a : Bool) → (a or true) ≡ true
or_true_right true = refl
or_true_right false = refl

-- two tests that pass of each other's passing are the same
pub alike : (a b : Bool) → (a ≡ true → b ≡ true) → (b ≡ true → a ≡ true) → a ≡ b
alike true b f g = sym (f refl)
alike false true f g = g refl
alike false false f g = refl

-- numbers on two sides of a test are not the same
pub apart : (f : ℕ → Bool) (x k : ℕ) → f x ≡ true → f k ≡ false → eqb x k ≡ false
apart f x k h n = same? x k (λ e. never h (ap f e ∙ n)) (λ d. d)

pub apart-not : (f : ℕ → Bool) (x k : ℕ) → f x ≡ false → f k ≡ true → eqb x k ≡ false
apart-not f x k h n = same? x k (λ e. never n (sym (ap f e) ∙ h)) (λ d. d)

pub All-append {ℓ} : {A : Type ℓ} (P : A → Type 0) (xs ys : List A) → All P xs → All P ys → All P (xs ++ ys)
All-append P [] ys h k = k
All-append P (x ∷ xs) ys h k = (h.0, All-append P xs ys h.1 k)

pub All-front {ℓ} : {A : Type ℓ} (P : A → Type 0) (xs ys : List A) → All P (xs ++ ys) → All P xs
All-front P [] ys h = tt
All-front P (x ∷ xs) ys h = (h.0, All-front P xs ys h.1)

pub All-back {ℓ} : {A : Type ℓ} (P : A → Type 0) (xs ys : List A) → All P (xs ++ ys) → All P ys
All-back P [] ys h = h
All-back P (x ∷ xs) ys h = All-back P xs ys h.1

pub All-weaker {ℓ} : {A : Type ℓ} {P Q : A → Type 0} → ((x : A) → P x → Q x) → (xs : List A) → All P xs → All Q xs
All-weaker f [] h = tt
All-weaker f (x ∷ xs) h = (f x h.0, All-weaker f xs h.1)

-- the test `all` and the property `All`
module _ {A : Type 0} (p : A → Bool) where
  pub all-All : (xs : List A) → all p xs ≡ true → All (λ x. p x ≡ true) xs
  unfolding all
  all-All [] h = tt
  all-All (x ∷ xs) h = let b = both (p x) (all p xs) h in (b.0, all-All xs b.1)

  pub All-all : (xs : List A) → All (λ x. p x ≡ true) xs → all p xs ≡ true
  unfolding all
  All-all [] h = refl
  All-all (x ∷ xs) h = and-true h.0 (All-all xs h.1)

  pub all_append : (xs ys : List A) → all p (xs ++ ys) ≡ (all p xs and all p ys)
  unfolding all
  all_append [] ys = refl
  all_append (x ∷ xs) ys = rw (all_append xs ys) (sym (and_assoc (p x) (all p xs) (all p ys)))

  pub any_append : (xs ys : List A) → any p (xs ++ ys) ≡ (any p xs or any p ys)
  unfolding any
  any_append [] ys = refl
  any_append (x ∷ xs) ys = rw (any_append xs ys) (sym (or_assoc (p x) (any p xs) (any p ys)))

  pub all_weaker : (q : A → Bool) → ((x : A) → p x ≡ true → q x ≡ true) → (xs : List A) → all p xs ≡ true → all q xs ≡ true
  unfolding all
  all_weaker q f [] h = refl
  all_weaker q f (x ∷ xs) h = let b = both (p x) (all p xs) h in and-true (f x b.0) (all_weaker q f xs b.1)

-- a choice
pub pick_same : {A : Type 0} (b : Bool) (x : A) → pick b x x ≡ x
pick_same true x = refl
pick_same false x = refl
