-- What a UTF-8 text holds, where there is no lone surrogate: strings in UTF-8, numbers in ASCII.
use Prim.Native.Nat.{ℕ, zero, suc}
use mathlib.Core.Path.{◌≡◌, refl, ap, ◌∙◌}
use mathlib.Core.Bool.{true, false, not}
use mathlib.Core.List.{List, [], ◌∷◌}
use borrow.Author.Tests.{le-leb, eq-eqb, not-true}
use lib.Dec.{eqb, leb}
use lib.ListN.{get_or, drop}
use Rattle.octets.specs.Basics.{◌and◌, all, All}
use Rattle.octets.specs.Optional.{given}
use Rattle.octets.specs.Classes.{between}
use Rattle.octets.specs.Utf8.{Due, start, due, due_after, is_start, utf8}
use Rattle.octets.proofs.Cases.{never, both, neither, and-true}
use Rattle.octets.proofs.Classes.{between-true}
use Rattle.octets.proofs.Utf8.{ascii, ascii-utf8}
use Rattle.json_text.specs.Tree.{Json, null, falsity, truth, num, str, arr, obj, Items, no_items, item, Members, no_members, member, string?, number?, array?, object?, list_of_items, octets_of, elements, element, members}
use Rattle.json_text.proofs.Outs.{by}
use Rattle.json_text.proofs.Surrogates.{is_ed, loose_due, loose_after, loose, ed-next}
use Rattle.json_text.proofs.Decoding.{Decoded, d-null, d-false, d-true, d-num, d-str, d-arr, d-obj, DecodedItems, d-none, d-item, DecodedMembers, d-empty, d-member}
use Rattle.tape.specs.Sound.{has_lone, distinct_keys, sound, sound_items, sound_members}

-- without a lone surrogate the loose step is UTF-8's
module _ (d : Due) (p c : ℕ) (s : List ℕ) (k : is_ed d ≡ true → p ≡ 237) (n : has_lone p (c ∷ s) ≡ false) where
  step-whole : loose_due d c ≡ due d c
  unfolding loose_due has_lone
  step-whole = by (λ x. x ≡ due d c) (is_ed d and between 160 191 c)
      (λ e. let b = both (is_ed d) (between 160 191 c) e in
      never (and-true (eq-eqb p 237 (k b.0)) (le-leb 160 c (between-true 160 191 c b.1).0)) (neither (eqb p 237 and leb 160 c) (has_lone c s) n).0)
      (λ e. refl)

  rest-whole : has_lone c s ≡ false
  unfolding has_lone
  rest-whole = (neither (eqb p 237 and leb 160 c) (has_lone c s) n).1

loose-whole : (d : Due) (p : ℕ) (s : List ℕ) → (is_ed d ≡ true → p ≡ 237) → has_lone p s ≡ false → loose_after d s ≡ due_after d s
unfolding loose_after due_after
loose-whole d p [] k n = refl
loose-whole d p (c ∷ s) k n = ap (λ (x : Due). loose_after x s) (step-whole d p c s k n) ∙ loose-whole (due d c) c s (ed-next d c) (rest-whole d p c s k n)

-- THE LAW of a string
pub loose-utf8 : (s : List ℕ) → loose s ≡ true → has_lone 0 s ≡ false → utf8 s ≡ true
unfolding loose utf8 is_ed
loose-utf8 s h n = rw (loose-whole start 0 s (λ e. never e refl) n) at h

-- values whose strings are in UTF-8, and whose numbers are ASCII
mutual
  pub data Encoded : Json → Type 0 where
    e-null : Encoded null
    e-false : Encoded falsity
    e-true : Encoded truth
    e-num : {t : List ℕ} → all ascii t ≡ true → Encoded (num t)
    e-str : {s : List ℕ} → utf8 s ≡ true → Encoded (str s)
    e-arr : {js : Items} → EncodedItems js → Encoded (arr js)
    e-obj : {ms : Members} → EncodedMembers ms → Encoded (obj ms)

  pub data EncodedItems : Items → Type 0 where
    e-none : EncodedItems no_items
    e-item : {j : Json} {js : Items} → Encoded j → EncodedItems js → EncodedItems (item j js)

  pub data EncodedMembers : Members → Type 0 where
    e-empty : EncodedMembers no_members
    e-member : {k : List ℕ} {j : Json} {ms : Members} → Encoded j → EncodedMembers ms → EncodedMembers (member k j ms)

-- THE LAW of a value
mutual
  unfolding sound

  pub sound-encoded : {j : Json} → Decoded j → sound j ≡ true → Encoded j
  sound-encoded d-null h = e-null
  sound-encoded d-false h = e-false
  sound-encoded d-true h = e-true
  sound-encoded (d-num n a) h = e-num a
  sound-encoded (d-str {s} l) h = e-str (loose-utf8 s l (not-true (has_lone 0 s) h))
  sound-encoded (d-arr ds) h = e-arr (items-encoded ds h)
  sound-encoded (d-obj {ms} ds) h = e-obj (members-encoded ds (both (distinct_keys ms) (sound_members ms) h).1)

  items-encoded : {js : Items} → DecodedItems js → sound_items js ≡ true → EncodedItems js
  items-encoded d-none h = e-none
  items-encoded (d-item {j} {js} d ds) h = let b = both (sound j) (sound_items js) h in e-item (sound-encoded d b.0) (items-encoded ds b.1)

  members-encoded : {ms : Members} → DecodedMembers ms → sound_members ms ≡ true → EncodedMembers ms
  members-encoded d-empty h = e-empty
  members-encoded (d-member {k} {j} {ms} l d ds) h =
      let a = both (not (has_lone 0 k)) (sound j and sound_members ms) h in
      let b = both (sound j) (sound_members ms) a.1 in
      e-member (sound-encoded d b.0) (members-encoded ds b.1)

-- what such a value holds
none-utf8 : utf8 [] ≡ true
unfolding utf8 due_after is_start
none-utf8 = refl

pub encoded-octets : {j : Json} → Encoded j → utf8 (octets_of j) ≡ true
unfolding octets_of string? number? given
encoded-octets e-null = none-utf8
encoded-octets e-false = none-utf8
encoded-octets e-true = none-utf8
encoded-octets (e-num {t} a) = ascii-utf8 t a
encoded-octets (e-str h) = h
encoded-octets (e-arr h) = none-utf8
encoded-octets (e-obj h) = none-utf8

items-list : {js : Items} → EncodedItems js → All Encoded (list_of_items js)
unfolding list_of_items
items-list e-none = tt
items-list (e-item h k) = (h, items-list k)

pub encoded-elements : {j : Json} → Encoded j → All Encoded (elements j)
unfolding elements array? given
encoded-elements e-null = tt
encoded-elements e-false = tt
encoded-elements e-true = tt
encoded-elements (e-num a) = tt
encoded-elements (e-str h) = tt
encoded-elements (e-arr h) = items-list h
encoded-elements (e-obj h) = tt

get_or-encoded : (js : List Json) (n : ℕ) → All Encoded js → Encoded (get_or js n null)
get_or-encoded [] n h = e-null
get_or-encoded (j ∷ js) zero h = h.0
get_or-encoded (j ∷ js) (suc n) h = get_or-encoded js n h.1

pub encoded-element : (n : ℕ) {j : Json} → Encoded j → Encoded (element n j)
unfolding element
encoded-element n {j} h = get_or-encoded (elements j) n (encoded-elements h)

pub encoded-members : {j : Json} → Encoded j → EncodedMembers (members j)
unfolding members object? given
encoded-members e-null = e-empty
encoded-members e-false = e-empty
encoded-members e-true = e-empty
encoded-members (e-num a) = e-empty
encoded-members (e-str h) = e-empty
encoded-members (e-arr h) = e-empty
encoded-members (e-obj h) = h

pub encoded-drop : (n : ℕ) (js : List Json) → All Encoded js → All Encoded (drop n js)
encoded-drop zero js h = h
encoded-drop (suc n) [] h = tt
encoded-drop (suc n) (j ∷ js) h = encoded-drop n js h.1
