-- Arrays whose values all pass a test, as a walk along the tape tells them.
use Prim.Native.Nat.{ℕ}
use mathlib.Core.Path.{◌≡◌, refl, ◌∙◌}
use mathlib.Core.Bool.{Bool, true, false}
use mathlib.Core.Logic.{inl}
use mathlib.Core.List.{List}
use Rattle.octets.specs.Basics.{all}
use Rattle.octets.specs.Optional.{holds}
use Rattle.json_text.specs.Tree.{Json}
use Rattle.json_text.specs.Tape.{tag_array, tag_end}
use Rattle.tape.specs.Decode.{tag_at, value_at, list_at}
use Rattle.tape.specs.Promise.{After, Next}
use Rattle.tape.proofs.Values.{no-array, list-end, list-next, list-first}
use Rattle.tape.proofs.Walks.{Along, along-start, along-next, along-end, array-some, next-inside}
use Rattle.conversion_theory.specs.Skeleton.{is_list_of}

-- one or more values, or none
module _ (p : Json → Bool) (t : List ℕ) (i : ℕ) where
  all_end : tag_at t i ≡ tag_end → all p (list_at t i) ≡ true
  unfolding all
  all_end e = rw (list-end t i e)

  all-on : {e : ℕ} → Next t i e → ((tag_at t i ≡ tag_end) → ⊥) → p (value_at t i) ≡ true → all p (list_at t i) ≡ all p (list_at t e)
  unfolding all
  all-on x n h = rw (list-next x n, h)

  all-off : ((tag_at t i ≡ tag_end) → ⊥) → p (value_at t i) ≡ false → all p (list_at t i) ≡ false
  unfolding all
  all-off n h = rw (list-first t i n, h)

  pub list_of : {a : ℕ} → After t i a → tag_at t i ≡ tag_array → is_list_of p (value_at t i) ≡ all p (list_at t a)
  unfolding is_list_of holds list_at
  list_of x q = rw (array-some x q)

  pub list-not : ((tag_at t i ≡ tag_array) → ⊥) → is_list_of p (value_at t i) ≡ false
  unfolding is_list_of holds
  list-not n = rw (no-array t i n)

-- the values from a to i pass the test
pub record Passing (p : Json → Bool) (t : List ℕ) (a i : ℕ) : Type 0 where
  pub along : Along t a i
  pub same : all p (list_at t a) ≡ all p (list_at t i)

module _ (p : Json → Bool) {t : List ℕ} {at a : ℕ} (x : After t at a) where
  pub passing-start : Passing p t a a
  passing-start = record { along = along-start x.high; same = refl }

module _ {p : Json → Bool} {t : List ℕ} {a i : ℕ} (s : Passing p t a i) where
  pub passing-next : {e : ℕ} → Next t i e → ((tag_at t i ≡ tag_end) → ⊥) → p (value_at t i) ≡ true → Passing p t a e
  passing-next y n h = record { along = along-next s.along y; same = s.same ∙ all-on p t i y n h }

  module _ {at : ℕ} (x : After t at a) (q : tag_at t at ≡ tag_array) where
    pub passing-off : ((tag_at t i ≡ tag_end) → ⊥) → p (value_at t i) ≡ false → is_list_of p (value_at t at) ≡ false
    passing-off n h = list_of p t at x q ∙ s.same ∙ all-off p t i n h

    pub passing-end : {e : ℕ} → tag_at t i ≡ tag_end → After t i e → (is_list_of p (value_at t at) ≡ true) × Next t at e
    passing-end z y = (list_of p t at x q ∙ s.same ∙ all_end p t i z, next-inside x (inl q) (along-end s.along z y))
