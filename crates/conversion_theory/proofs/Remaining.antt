-- What remains where some of a list are left out: each has what each had, and no parameter name stands twice.
use Prim.Native.Nat.{ℕ}
use mathlib.Core.Path.{◌≡◌, refl}
use mathlib.Core.Bool.{Bool, false}
use mathlib.Core.List.{List, [], ◌∷◌, map}
use Rattle.octets.specs.Basics.{any, same, among, twice, All}
use Rattle.octets.proofs.Cases.{cases, neither, or-false}
use Rattle.content.specs.Line.{Param}
use Rattle.content.specs.Parameters.{name_twice}
use Rattle.conversion_theory.specs.Claim.{those}

module _ {A : Type 0} (f : A → Bool) where
  pub those-All : (P : A → Type 0) (xs : List A) → All P xs → All P (those f xs)
  unfolding those
  those-All P [] h = tt
  those-All P (x ∷ xs) h = cases (f x) (λ e. rw e (h.0, those-All P xs h.1)) (λ e. rw e (those-All P xs h.1))

abbrev pub names : List Param → List (List ℕ)
names ps = map (λ (p : Param). p.name) ps

module _ (f : Param → Bool) where
  those-among : (n : List ℕ) (ps : List Param) → among n (names ps) ≡ false → among n (names (those f ps)) ≡ false
  unfolding among any those
  those-among n [] h = refl
  those-among n (p ∷ ps) h =
      let b = neither (same n p.name) (among n (names ps)) h in
      cases (f p) (λ e. rw e (or-false b.0 (those-among n ps b.1))) (λ e. rw e (those-among n ps b.1))

  pub those-once : (ps : List Param) → name_twice ps ≡ false → name_twice (those f ps) ≡ false
  unfolding name_twice twice those
  those-once [] h = refl
  those-once (p ∷ ps) h =
      let b = neither (among p.name (names ps)) (twice (names ps)) h in
      cases (f p) (λ e. rw e (or-false (those-among p.name ps b.0) (those-once ps b.1))) (λ e. rw e (those-once ps b.1))
