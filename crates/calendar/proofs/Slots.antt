-- Reading and writing by the places of a form: the places as octets, the state of the loop that reads, and of the one that writes the basic text.
use Prim.Native.Nat.{ℕ, ◌+◌, ◌-◌, ◌≤◌, ◌<◌}
use Prim.Native.Char.{code}
use mathlib.Core.Path.{◌≡◌, refl, sym, ap, ◌∙◌}
use mathlib.Core.Bool.{Bool, true, false}
use mathlib.Core.List.{List, [], ◌∷◌, ◌++◌, append_assoc, append-nil}
use mathlib.Core.Logic.{◌⊎◌, inl, inr}
use mathlib.Core.Option.{Option, none, some}
use native.Mathlib.Omega.{arith}
use native.Mathlib.Numerals.{add-one}
use lib.Dec.{eqb}
use lib.ListN.{length, get_or, take, drop, set, replicate, length-set}
use lib.Seq.{take-suc-set}
use Rattle.std.proofs.lemmas.List.{drop-drop, drop-set-lt, drop-replicate}
use Rattle.octets.specs.Basics.{◌and◌}
use Rattle.octets.specs.Optional.{map?, when}
use Rattle.octets.specs.Classes.{upper_octet, upper}
use Rattle.octets.proofs.Cases.{cases, same?}
use Rattle.octets.proofs.Positions.{here, ended}
use Rattle.calendar.specs.Forms.{Slot, digit, sign, letter, added, takes, fits, kept, extended, keeps, basic}
use Rattle.calendar.specs.Texts.{is_added, place_at, slot_at, slots}
use Rattle.calendar.proofs.Extended.{basic-none}

-- a place is a digit, a sign or a letter
place-cases {ℓ} : (P : Slot → Type ℓ) (c : ℕ) → P digit → P sign → P (letter c) → P (place_at c)
unfolding place_at
place-cases P c d s l = cases (eqb c (code "9")) (λ e. rw e d) λ e. cases (eqb c (code "+")) (λ f. rw (e, f) s) (λ f. rw (e, f) l)

-- an octet at a place is kept if the place takes it
extended-place : (c : ℕ) (fs : List Slot) (x : ℕ) (xs : List ℕ) → extended (place_at c ∷ fs) (x ∷ xs) ≡ kept (takes (place_at c) x) x (extended fs xs)
extended-place c fs x xs =
    place-cases (λ p. extended (p ∷ fs) (x ∷ xs) ≡ kept (takes p x) x (extended fs xs)) c (unfold extended takes in refl) (unfold extended takes in refl)
    (same? x c (λ e. rw e (unfold extended takes in refl)) (λ e. unfold extended takes kept in rw e))

extended-short : (c : ℕ) (fs : List Slot) → extended (place_at c ∷ fs) [] ≡ none
extended-short c fs = place-cases (λ p. extended (p ∷ fs) [] ≡ none) c (unfold extended in refl) (unfold extended in refl) (unfold extended in refl)

-- a text behind octets that are there already
pub joins : List ℕ → Option (List ℕ) → Option (List ℕ)
joins acc r = map? (λ t. acc ++ t) r

joins-kept : (acc : List ℕ) (x : ℕ) (r : Option (List ℕ)) → joins acc (kept true x r) ≡ joins (acc ++ x ∷ []) r
unfolding joins kept map?
joins-kept acc x none = refl
joins-kept acc x (some t) = ap some (sym (append_assoc acc (x ∷ []) t))

joins-none : (acc : List ℕ) → joins acc none ≡ none
unfolding joins map?
joins-none acc = refl

upper-here : (s : List ℕ) (i : ℕ) → i < length s → upper (drop i s) ≡ upper_octet (get_or s i 0) ∷ upper (drop (i + 1) s)
unfolding upper
upper-here s i h = rw (here s i h)

upper-ended : (s : List ℕ) (i : ℕ) → length s ≤ i → upper (drop i s) ≡ []
unfolding upper
upper-ended s i h = rw (ended s i h)

module _ (whole : Bool) (form : List ℕ) (k : ℕ) (h : k < length form) where
  pub slot_added : is_added whole (get_or form k 0) ≡ true → slots whole (drop k form) ≡ added (get_or form k 0) ∷ slots whole (drop (k + 1) form)
  unfolding slots slot_at
  slot_added e = rw (here form k h, e)

  pub slot-place : is_added whole (get_or form k 0) ≡ false → slots whole (drop k form) ≡ place_at (get_or form k 0) ∷ slots whole (drop (k + 1) form)
  unfolding slots slot_at
  slot-place e = rw (here form k h, e)

slot-ended : (whole : Bool) (form : List ℕ) (k : ℕ) → length form ≤ k → slots whole (drop k form) ≡ []
unfolding slots
slot-ended whole form k h = rw (ended form k h)

-- an octet that is put before zeros takes the place of the first one
zeros-left : (n : ℕ) (out : List ℕ) (x : ℕ) → drop n out ≡ replicate (20 - n) 0 → drop (n + 1) (set out n x) ≡ replicate (20 - (n + 1)) 0
zeros-left n out x z =
    let e : 20 - n - 1 ≡ 20 - (n + 1) = omega arith in
    drop-set-lt (n + 1) out n x (omega arith) ∙ sym (drop-drop 1 n out) ∙ ap (drop 1) z ∙ drop-replicate 1 (20 - n) 0 ∙ ap (λ k. replicate k 0) e

-- The loop that reads: k places are read, from i octets, into the front of `out`; the rest of `out` is zeros.
pub record Reading (whole : Bool) (form s out : List ℕ) (i k : ℕ) : Type 0 where
  pub wide : length out ≡ 20
  pub within : i ≤ length s
  pub upto : k ≤ length form
  pub zeros : drop k out ≡ replicate (20 - k) 0
  pub all : joins (take k out) (extended (slots whole (drop k form)) (upper (drop i s))) ≡ extended (slots whole form) (upper s)

module _ (whole : Bool) (form s : List ℕ) where
  pub begins : (out : List ℕ) → length out ≡ 20 → out ≡ replicate 20 0 → Reading whole form s out 0 0
  begins out w z = record { wide = w; within = omega arith; upto = omega arith; zeros = z; all = whole-text (extended (slots whole form) (upper s)) }
    where
      whole-text : (r : Option (List ℕ)) → joins [] r ≡ r
      whole-text none = unfold joins map? in refl
      whole-text (some t) = unfold joins map? in refl

  module _ (out : List ℕ) (i k : ℕ) (r : Reading whole form s out i k) where
    stored : (x : ℕ) → k < 20 → take (k + 1) (set out k x) ≡ take k out ++ x ∷ []
    stored x h = rw add-one (take-suc-set out k x (rw r.wide h))

    pub adds : k < length form → k < 20 → is_added whole (get_or form k 0) ≡ true → Reading whole form s (set out k (get_or form k 0)) i (k + 1)
    adds h l e =
        let f = get_or form k 0 in
        record {
          wide = length-set out k f ∙ r.wide;
          within = r.within;
          upto = omega arith;
          zeros = zeros-left k out f r.zeros;
          all =
              rw (stored f l)
              (sym (joins-kept (take k out) f (extended (slots whole (drop (k + 1) form)) (upper (drop i s))))
              ∙ (unfold extended in rw (slot_added whole form k h e) at r.all));
        }

    pub reads : (x : ℕ) → k < length form → k < 20 → i < length s → is_added whole (get_or form k 0) ≡ false → x ≡ upper_octet (get_or s i 0)
        → takes (place_at (get_or form k 0)) x ≡ true → Reading whole form s (set out k x) (i + 1) (k + 1)
    reads x h l g e q t =
        record {
          wide = length-set out k x ∙ r.wide;
          within = omega arith;
          upto = omega arith;
          zeros = zeros-left k out x r.zeros;
          all =
              rw (stored x l)
              (sym (joins-kept (take k out) x (extended (slots whole (drop (k + 1) form)) (upper (drop (i + 1) s))))
              ∙ (rw (slot-place whole form k h e, upper-here s i g, ← q, extended-place (get_or form k 0), t) at r.all));
        }

    -- the text is too short, is wrong here, or is too long
    pub short : k < length form → length s ≤ i → is_added whole (get_or form k 0) ≡ false → none ≡ extended (slots whole form) (upper s)
    short h g e = sym (joins-none (take k out)) ∙ (rw (slot-place whole form k h e, upper-ended s i g, extended-short (get_or form k 0)) at r.all)

    pub wrong : (x : ℕ) → k < length form → i < length s → is_added whole (get_or form k 0) ≡ false → x ≡ upper_octet (get_or s i 0)
        → takes (place_at (get_or form k 0)) x ≡ false → none ≡ extended (slots whole form) (upper s)
    unfolding kept
    wrong x h g e q t = sym (joins-none (take k out)) ∙ (rw (slot-place whole form k h e, upper-here s i g, ← q, extended-place (get_or form k 0), t) at r.all)

    pub long : length form ≤ k → i < length s → none ≡ extended (slots whole form) (upper s)
    unfolding extended
    long h g = sym (joins-none (take k out)) ∙ (rw (slot-ended whole form k h, upper-here s i g) at r.all)

    pub ends : length form ≤ k → length s ≤ i → some (take k out) ≡ extended (slots whole form) (upper s)
    unfolding extended joins map?
    ends h g = ap some (sym (append-nil (take k out))) ∙ (rw (slot-ended whole form k h, upper-ended s i g) at r.all)

-- The loop that writes the basic text: the places fs and the octets ts are left, and n octets are kept in the front of `out`; the rest of `out` is zeros.
pub record Writing (form t out : List ℕ) (n : ℕ) (fs ts : List ℕ) : Type 0 where
  pub wide : length out ≡ 20
  pub room : n + length fs ≤ 20
  pub zeros : drop n out ≡ replicate (20 - n) 0
  pub all : take n out ++ basic (slots false fs) (upper ts) ≡ basic (slots false form) (upper t)

basic-place : (c : ℕ) (fs : List Slot) (x : ℕ) (xs : List ℕ) → basic (place_at c ∷ fs) (x ∷ xs) ≡ x ∷ basic fs xs
basic-place c fs x xs =
    place-cases (λ p. basic (p ∷ fs) (x ∷ xs) ≡ x ∷ basic fs xs) c (unfold basic keeps in refl) (unfold basic keeps in refl) (unfold basic keeps in refl)

module _ (form t out : List ℕ) where
  module _ (n : ℕ) (fs ts : List ℕ) (r : Writing form t out n fs ts) where
    module _ (f c : ℕ) (gs us : List ℕ) (p : fs ≡ f ∷ gs) (q : ts ≡ c ∷ us) where
      pub has-room : n + 1 + length gs ≤ 20
      has-room = let e = ap length p in omega (arith, r.room)

      pub skips : is_added false f ≡ true → Writing form t out n gs us
      unfolding slots slot_at upper basic keeps
      skips e = record { wide = r.wide; room = omega (arith, has-room); zeros = r.zeros; all = rw (p, q, e) at r.all }

      pub keeps-one : (x : ℕ) → is_added false f ≡ false → x ≡ upper_octet c → Writing form t (set out n x) (n + 1) gs us
      keeps-one x e d =
          let s : take (n + 1) (set out n x) ≡ take n out ++ x ∷ [] = rw add-one (take-suc-set out n x (rw r.wide (omega (arith, has-room)))) in
          record {
            wide = length-set out n x ∙ r.wide;
            room = has-room;
            zeros = zeros-left n out x r.zeros;
            all = rw (s, append_assoc, d, ← (basic-place f (slots false gs) (upper_octet c) (upper us))) (unfold slots slot_at upper in rw (p, q, e) at r.all);
          }

    pub one-ends : (fs ≡ []) ⊎ (ts ≡ []) → take n out ≡ basic (slots false form) (upper t)
    unfolding basic slots upper
    one-ends (inl g) = sym (append-nil (take n out)) ∙ (rw g at r.all)
    one-ends (inr g) = sym (append-nil (take n out)) ∙ (rw (g, basic-none) at r.all)

-- A whole text: a place that only the extended form has is an octet of it.
whole_takes : (c x : ℕ) → takes (slot_at false c) x ≡ takes (place_at c) x
unfolding slot_at is_added place_at takes
whole_takes c x =
    same? c (code "-") (λ e. rw e) λ d. same? c (code ":") (λ e. rw e) (λ e. rw (d, e))

kept-when : (b f : Bool) (x : ℕ) (xs : List ℕ) → kept b x (when f xs) ≡ when (b and f) (x ∷ xs)
unfolding kept when map?
kept-when true true x xs = refl
kept-when true false x xs = refl
kept-when false f x xs = refl

slot_whole : (c : ℕ) → slot_at true c ≡ place_at c
unfolding slot_at is_added
slot_whole c = refl

pub whole-text : (form s : List ℕ) → extended (slots true form) s ≡ when (fits (slots false form) s) s
unfolding slots extended fits when
whole-text [] [] = refl
whole-text [] (x ∷ s) = refl
whole-text (c ∷ form) [] = rw (slot_whole c) (extended-short c (slots true form))
whole-text (c ∷ form) (x ∷ s) =
    rw (slot_whole c, extended-place c, whole-text form s, whole_takes c x) (kept-when (takes (place_at c) x) (fits (slots false form) s) x s)
