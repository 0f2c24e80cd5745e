-- A walk along an array all of whose elements pass a test.
use Prim.Native.Nat.{ℕ}
use mathlib.Core.Path.{◌≡◌, sym, ap, ◌∙◌}
use mathlib.Core.Bool.{Bool, true, false}
use mathlib.Core.Logic.{inl}
use mathlib.Core.List.{List}
use borrow.Author.Tests.{eq-eqb}
use Rattle.octets.specs.Basics.{all}
use Rattle.octets.proofs.Cases.{same?, never, both}
use Rattle.json_text.specs.Tree.{Json, elements}
use Rattle.json_text.specs.Tape.{tag_array, tag_end}
use Rattle.tape.specs.Decode.{tag_at, value_at, list_at}
use Rattle.tape.specs.Promise.{After, Next}
use Rattle.tape.proofs.Values.{list-first, list-next}
use Rattle.tape.proofs.Walks.{Along, along-start, along-next, along-end, next-inside, elements-inside}
use Rattle.conversion_theory.specs.Skeleton.{is_list_of, is_property, is_component}
use Rattle.ical_skeleton.proofs.Lists.{list_of, list-not}
use Rattle.ical_skeleton.proofs.Parts.{property-not, component-not}

-- what passes a test that arrays alone pass is an array
module _ (t : List ℕ) (i : ℕ) where
  array-tag : (b : Bool) → b ≡ true → (((tag_at t i ≡ tag_array) → ⊥) → b ≡ false) → tag_at t i ≡ tag_array
  array-tag b h n = same? (tag_at t i) tag_array (λ e. e) (λ q. never h (n (λ e. never (eq-eqb (tag_at t i) tag_array e) q)))

  pub list-array : (p : Json → Bool) → is_list_of p (value_at t i) ≡ true → tag_at t i ≡ tag_array
  list-array p h = array-tag (is_list_of p (value_at t i)) h (list-not p t i)

  pub property-array : is_property (value_at t i) ≡ true → tag_at t i ≡ tag_array
  property-array h = array-tag (is_property (value_at t i)) h (property-not t i)

  pub component-array : (d : ℕ) → is_component d (value_at t i) ≡ true → tag_at t i ≡ tag_array
  component-array d h = array-tag (is_component d (value_at t i)) h (λ n. component-not t i n d)

-- its elements stand from a on
pub elements-there : {A : Type 0} (f : List Json → A) (p : Json → Bool) (t : List ℕ) (i : ℕ) {a : ℕ} → is_list_of p (value_at t i) ≡ true → After t i a
    → f (elements (value_at t i)) ≡ f (list_at t a)
elements-there f p t i h x = ap f (elements-inside x (list-array t i p h))

-- i stands in the group that begins at a, and the elements from i on pass
pub record Walking (p : Json → Bool) (t : List ℕ) (a i : ℕ) : Type 0 where
  pub along : Along t a i
  pub rest : all p (list_at t i) ≡ true

pub walking_start : (p : Json → Bool) {t : List ℕ} {at a : ℕ} → is_list_of p (value_at t at) ≡ true → After t at a → Walking p t a a
walking_start p {t} {at} h x = record { along = along-start x.high; rest = sym (list_of p t at x (list-array t at p h)) ∙ h }

module _ {p : Json → Bool} {t : List ℕ} {a i : ℕ} (w : Walking p t a i) where
  pub walking-end : {at e : ℕ} → is_list_of p (value_at t at) ≡ true → After t at a → tag_at t i ≡ tag_end → After t i e → Next t at e
  walking-end {at} h x z y = next-inside x (inl (list-array t at p h)) (along-end w.along z y)

  module _ (n : (tag_at t i ≡ tag_end) → ⊥) where
    pub walking_here : p (value_at t i) ≡ true
    unfolding all
    walking_here = (both (p (value_at t i)) _ (sym (ap (all p) (list-first t i n)) ∙ w.rest)).0

    pub walking-next : {e : ℕ} → Next t i e → Walking p t a e
    unfolding all
    walking-next {e} y = record { along = along-next w.along y; rest = (both (p (value_at t i)) (all p (list_at t e)) (sym (ap (all p) (list-next y n)) ∙ w.rest)).1 }
