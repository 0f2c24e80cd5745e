-- What a place of a tape shows, by the octet that stands there.
use Prim.Native.Nat.{ℕ, suc, ◌+◌, ◌-◌, ◌≤◌, ◌<◌}
use mathlib.Core.Path.{◌≡◌, refl, sym, ◌∙◌}
use mathlib.Core.Bool.{true, false}
use mathlib.Core.List.{List, [], ◌∷◌}
use native.Mathlib.Numerals.{add-one}
use native.Mathlib.Omega.{arith}
use borrow.Author.Tests.{ne_eqb, ltb-true, ltb-false}
use lib.Dec.{eqb, ltb}
use lib.ListN.{length, take, drop, get_or, drop_of_length-le, get_or-eq_default}
use lib.Seq.{drop-cons, drop-drop}
use Rattle.octets.specs.Search.{until}
use Rattle.octets.proofs.Cases.{cases}
use Rattle.octets.proofs.Search.{scan-is, scan-high}
use Rattle.json_text.specs.Tree.{Json, num, str, arr, obj, no_items}
use Rattle.json_text.specs.Tape.{tag_number, tag_string, tag_array, tag_object, tag_end}
use Rattle.tape.specs.Decode.{Groups, last, group, top, pop, push, text_at_front, leaf, in_text, into_groups, groups, view, tag_at, text_at, items_at, members_at}

-- a place lies on the tape or past it
pub on-or-past {ℓ} : {P : Type ℓ} (t : List ℕ) (i : ℕ) → (i < length t → P) → (length t ≤ i → P) → P
on-or-past t i f g = cases (ltb i (length t)) (λ e. f (ltb-true i (length t) e)) (λ e. g (ltb-false i (length t) e))

module _ (t : List ℕ) (i : ℕ) where
  pub past-tag : length t ≤ i → tag_at t i ≡ tag_end
  unfolding tag_at
  past-tag h = get_or-eq_default t tag_end h

  -- a tag other than that of an end stands on the tape
  pub on-tape : ((tag_at t i ≡ tag_end) → ⊥) → i < length t
  on-tape n = on-or-past t i (λ h. h) (λ h. absurd (n (past-tag h)))

  pub here : i < length t → drop i t ≡ tag_at t i ∷ drop (i + 1) t
  unfolding tag_at
  here h = rw add-one (drop-cons t i tag_end h)

  pub read-tag : i < length t → get_or t i 0 ≡ tag_at t i
  read-tag h = let e : get_or t i 0 ∷ drop (suc i) t ≡ tag_at t i ∷ drop (i + 1) t = sym (drop-cons t i 0 h) ∙ here h in cc

  pub on-view : i < length t → view t i ≡ into_groups false (tag_at t i) (drop (i + 1) t) (groups (in_text false (tag_at t i)) (drop (i + 1) t))
  unfolding view groups
  on-view h = rw (here h)

  pub past-view : length t ≤ i → view t i ≡ last no_items
  unfolding view groups
  past-view h = rw (drop_of_length-le t {i = i} h)

-- a text's end
text-drop : (s : List ℕ) → groups true s ≡ groups false (drop (suc (length (text_at_front s))) s)
unfolding text_at_front until groups in_text
text-drop [] = refl
text-drop (b ∷ s) = let h : groups true s ≡ groups false (drop (suc (length (text_at_front s))) s) = text-drop s in cases (eqb b tag_end) (λ e. rw e) (λ e. rw e h)

module _ (t : List ℕ) (i : ℕ) where
  pub text-here : i < length t → tag_at t i ≡ tag_end → text_at t i ≡ []
  unfolding text_at text_at_front until
  text-here h e = rw (here t i h, e)

  pub text-on : i < length t → ((tag_at t i ≡ tag_end) → ⊥) → text_at t i ≡ tag_at t i ∷ text_at t (i + 1)
  unfolding text_at text_at_front until
  text-on h n = rw (here t i h, ne_eqb _ tag_end n)

  pub text-past : length t ≤ i → text_at t i ≡ []
  unfolding text_at text_at_front until
  text-past h = rw (drop_of_length-le t {i = i} h)

  -- the octets from i to e are the text at i
  pub text-part : (e : ℕ) → e ≡ i + length (text_at t i) → take (e - i) (drop i t) ≡ text_at t i
  unfolding text_at text_at_front
  text-part e q = scan-is (λ b. eqb b tag_end) t i e q

  pub text-within : i ≤ length t → i + length (text_at t i) ≤ length t
  unfolding text_at text_at_front
  text-within h = scan-high (λ b. eqb b tag_end) t i _ refl h

  text-behind : groups true (drop i t) ≡ view t (i + length (text_at t i) + 1)
  unfolding text_at view
  text-behind =
      let n : i + suc (length (text_at_front (drop i t))) ≡ i + length (text_at_front (drop i t)) + 1 = omega arith in
      text-drop (drop i t) ∙ rw (drop-drop, n)

-- the value j stands at i, in front of s
pub record Shows (t : List ℕ) (i : ℕ) (j : Json) (s : Groups) : Type 0 where
  pub is : view t i ≡ push j s

module _ (t : List ℕ) (i : ℕ) where
  pub at-array : tag_at t i ≡ tag_array → Shows t i (arr (items_at t (i + 1))) (pop (view t (i + 1)))
  unfolding in_text view items_at
  at-array e = record { is = on-view t i (on-tape t i (λ f. omega arith)) ∙ rw e }

  pub at-object : tag_at t i ≡ tag_object → Shows t i (obj (members_at t (i + 1))) (pop (view t (i + 1)))
  unfolding in_text view items_at members_at
  at-object e = record { is = on-view t i (on-tape t i (λ f. omega arith)) ∙ rw e }

  pub at-number : tag_at t i ≡ tag_number → Shows t i (num (text_at t (i + 1))) (view t (i + 1 + length (text_at t (i + 1)) + 1))
  unfolding in_text
  at-number e = record { is = on-view t i (on-tape t i (λ f. omega arith)) ∙ rw (e, text-behind t (i + 1)) (unfold text_at in refl) }

  pub at-string : tag_at t i ≡ tag_string → Shows t i (str (text_at t (i + 1))) (view t (i + 1 + length (text_at t (i + 1)) + 1))
  unfolding in_text
  at-string e = record { is = on-view t i (on-tape t i (λ f. omega arith)) ∙ rw (e, text-behind t (i + 1)) (unfold text_at in refl) }

  -- any other value is one octet
  pub at_other : ((tag_at t i ≡ tag_end) → ⊥) → ((tag_at t i ≡ tag_array) → ⊥) → ((tag_at t i ≡ tag_object) → ⊥) → ((tag_at t i ≡ tag_number) → ⊥) → ((tag_at t i ≡ tag_string) → ⊥)
      → Shows t i (leaf (tag_at t i) (drop (i + 1) t)) (view t (i + 1))
  unfolding in_text view
  at_other n a o m s = record { is = on-view t i (on-tape t i n) ∙ rw (ne_eqb _ tag_end n, ne_eqb _ tag_array a, ne_eqb _ tag_object o, ne_eqb _ tag_number m, ne_eqb _ tag_string s) }

  -- the end of a group, or of the tape
  on-end : i < length t → tag_at t i ≡ tag_end → view t i ≡ group no_items (view t (i + 1))
  unfolding in_text view
  on-end h e = on-view t i h ∙ rw e

  pub end-pop : tag_at t i ≡ tag_end → pop (view t i) ≡ view t (i + 1)
  end-pop e = on-or-past t i (λ h. rw (on-end h e)) (λ h. rw (past-view t i h, past-view t (i + 1) (omega arith)))

  pub end-top : tag_at t i ≡ tag_end → top (view t i) ≡ no_items
  end-top e = on-or-past t i (λ h. rw (on-end h e)) (λ h. rw (past-view t i h))
