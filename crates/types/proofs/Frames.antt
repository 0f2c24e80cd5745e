-- Frames: their octets in hexadecimal, and the rows that they are.
use Prim.Native.Nat.{ℕ, suc, ◌+◌, ◌-◌, ◌*◌, ◌≤◌, ◌<◌}
use mathlib.Core.Path.{◌≡◌, refl, sym, ap, ◌∙◌}
use mathlib.Core.Bool.{Bool, true, false, not}
use mathlib.Core.List.{List, [], ◌∷◌, ◌++◌, append_assoc, append-nil}
use mathlib.Core.Option.{Option, none, some}
use native.Mathlib.Omega.{arith}
use native.Mathlib.Numerals.{add-one}
use borrow.Author.Tests.{eqb-true, le-leb, lt-leb, ltb-true, ltb-false, ne_eqb}
use lib.Dec.{eqb, leb, ltb}
use lib.ListN.{length, get_or, take, drop, set, length-drop}
use lib.Seq.{take-suc-set}
use Rattle.octets.specs.Basics.{octets, pick, ◌and◌, ◌or◌, all, same}
use Rattle.octets.specs.Optional.{map?, both?, then?, is_some, when}
use Rattle.octets.specs.Classes.{between, hex_digit}
use Rattle.octets.proofs.Cases.{same?, never, both, and_assoc, and-false-right}
use Rattle.octets.proofs.Classes.{within-between, below-between, above-between, between-true}
use Rattle.octets.proofs.Optional.{missing, some_same, both_is, when_true, when-is, when-none, some-when}
use Rattle.octets.proofs.Positions.{from}
use Rattle.types.specs.Codes.{binary, utc_offset, type_splits}
use Rattle.types.specs.Table.{Entry, entry}
use Rattle.types.specs.Laid.{laid_row}
use Rattle.types.specs.Rows.{octet_of, frame_of, row_octet, is_row, entry_of, row_of}

-- a frame is a row: the tests in the code's order
unfoldable pub kind : ℕ → ℕ → Bool
kind c m = between binary utc_offset c and (eqb m 0 or (eqb m 1 and type_splits c))

unfoldable pub no-keyword : List ℕ → Bool
no-keyword n = not (same n (octets "BEGIN") or same n (octets "END"))

wrong-length : (c m : ℕ) (n : List ℕ) → between 1 32 (length n) ≡ false → is_row c m n ≡ false
unfolding is_row
wrong-length c m n e = rw (e, and-false-right (eqb m 0 or (eqb m 1 and type_splits c)), and-false-right (between binary utc_offset c))

right-length : (c m : ℕ) (n : List ℕ) → between 1 32 (length n) ≡ true → is_row c m n ≡ (kind c m and (all row_octet n and no-keyword n))
unfolding is_row kind no-keyword
right-length c m n e = rw e (sym (and_assoc (between binary utc_offset c) (eqb m 0 or (eqb m 1 and type_splits c)) (all row_octet n and not (same n (octets "BEGIN") or same n (octets "END")))))

pub too_short : (f : List ℕ) → length f < 3 → entry_of f ≡ none
unfolding entry_of when
too_short [] h = refl
too_short (c ∷ []) h = refl
too_short (c ∷ m ∷ n) h = rw (wrong-length c m n (below-between 1 32 (length n) (omega arith)))

pub too_long : (f : List ℕ) → 34 < length f → entry_of f ≡ none
unfolding entry_of when
too_long [] h = refl
too_long (c ∷ []) h = refl
too_long (c ∷ m ∷ n) h = rw (wrong-length c m n (above-between 1 32 (length n) (omega arith)))

frame-test : (f : List ℕ) → 3 ≤ length f → length f ≤ 34
    → is_some (entry_of f) ≡ (kind (get_or f 0 0) (get_or f 1 0) and (all row_octet (take (length f - 2) (drop 2 f)) and no-keyword (take (length f - 2) (drop 2 f))))
unfolding entry_of
frame-test [] h k = absurd (omega arith)
frame-test (c ∷ []) h k = absurd (omega arith)
frame-test (c ∷ m ∷ n) h k =
    some-when (is_row c m n) (entry n c (eqb m 1)) ∙ right-length c m n (within-between 1 32 (length n) (omega arith) (omega arith)) ∙ rw (from (c ∷ m ∷ n) 2)

module _ (f : List ℕ) (h : 3 ≤ length f) (k : length f ≤ 34) where
  pub not-kind : kind (get_or f 0 0) (get_or f 1 0) ≡ false → is_some (entry_of f) ≡ false
  not-kind e = frame-test f h k ∙ rw e

  module _ (e : kind (get_or f 0 0) (get_or f 1 0) ≡ true) where
    pub not-name : all row_octet (take (length f - 2) (drop 2 f)) ≡ false → is_some (entry_of f) ≡ false
    not-name a = frame-test f h k ∙ rw (e, a)

    pub some-name : all row_octet (take (length f - 2) (drop 2 f)) ≡ true → is_some (entry_of f) ≡ no-keyword (take (length f - 2) (drop 2 f))
    some-name a = frame-test f h k ∙ rw (e, a)

-- what a row tells of its code, its number, its name
pub record Row-told (c m : ℕ) (n : List ℕ) : Type 0 where
  pub coded : between binary utc_offset c ≡ true
  pub some-many : (eqb m 0 or (eqb m 1 and type_splits c)) ≡ true
  pub sized : between 1 32 (length n) ≡ true
  pub spelt : all row_octet n ≡ true
  pub no_word : no-keyword n ≡ true

pub row_told : (c m : ℕ) (n : List ℕ) → is_row c m n ≡ true → Row-told c m n
unfolding is_row no-keyword
row_told c m n e =
    let a = both (between binary utc_offset c) ((eqb m 0 or (eqb m 1 and type_splits c)) and between 1 32 (length n) and all row_octet n and not (same n (octets "BEGIN") or same n (octets "END"))) e in
    let b = both (eqb m 0 or (eqb m 1 and type_splits c)) (between 1 32 (length n) and all row_octet n and not (same n (octets "BEGIN") or same n (octets "END"))) a.1 in
    let d = both (between 1 32 (length n)) (all row_octet n and not (same n (octets "BEGIN") or same n (octets "END"))) b.1 in
    let g = both (all row_octet n) (not (same n (octets "BEGIN") or same n (octets "END"))) d.1 in
    record { coded = a.0; some-many = b.0; sized = d.0; spelt = g.0; no_word = g.1 }

-- the frame of a row: what is laid out of it is the frame behind the length of its name
pub record Framed (f : List ℕ) : Type 0 where
  pub row : Entry
  pub is : entry_of f ≡ some row
  pub name : take (length f - 2) (drop 2 f) ≡ row.name
  pub low : 3 ≤ length f
  pub high : length f ≤ 34
  pub laid : laid_row row ≡ (length f - 2) ∷ f

pub one-or-many : (c m : ℕ) → (eqb m 0 or (eqb m 1 and type_splits c)) ≡ true → pick (eqb m 1) 1 0 ≡ m
one-or-many c m h = same? m 0
    (λ e. rw e)
    (λ e. let q : m ≡ 1 = eqb-true m 1 (both (eqb m 1) (type_splits c) (rw e at h)).0 in rw q)

frame-laid : (c m : ℕ) (n : List ℕ) → Row-told c m n → laid_row (entry n c (eqb m 1)) ≡ (length (c ∷ m ∷ n) - 2) ∷ c ∷ m ∷ n
unfolding laid_row
frame-laid c m n t = let l : length (c ∷ m ∷ n) - 2 ≡ length n = omega arith in rw (one-or-many c m t.some-many, l)

pub framed : (f : List ℕ) → is_some (entry_of f) ≡ true → Framed f
unfolding entry_of is_some
framed [] e = never e refl
framed (c ∷ []) e = never e refl
framed (c ∷ m ∷ n) e =
    let k : is_row c m n ≡ true = sym (some-when (is_row c m n) (entry n c (eqb m 1))) ∙ e in
    let t = row_told c m n k in
    let s = between-true 1 32 (length n) t.sized in
    record {
      row = entry n c (eqb m 1);
      is = when_true (is_row c m n) (entry n c (eqb m 1)) k;
      name = from (c ∷ m ∷ n) 2;
      low = omega arith;
      high = omega arith;
      laid = frame-laid c m n t;
    }

pub no-frame : (f : List ℕ) → is_some (entry_of f) ≡ false → entry_of f ≡ none
unfolding is_some
no-frame f e = nothing (entry_of f) e
  where
    nothing : (o : Option Entry) → is_some o ≡ false → o ≡ none
    nothing none k = refl
    nothing (some a) k = never refl k

-- two hexadecimal digits are an octet
module _ (h l : ℕ) where
  octet-good : hex_digit h ≤ 15 → hex_digit l ≤ 15 → octet_of h l ≡ some (hex_digit h * 16 + hex_digit l)
  unfolding octet_of when
  octet-good a b = rw (le-leb (hex_digit h) 15 a, le-leb (hex_digit l) 15 b)

  pub octet-is : {x y : ℕ} → some x ≡ when (ltb (hex_digit h) 16) (hex_digit h) → some y ≡ when (ltb (hex_digit l) 16) (hex_digit l) → octet_of h l ≡ some (x * 16 + y)
  octet-is {x} {y} e f =
      let p = when-is _ _ x (sym e) in
      let q = when-is _ _ y (sym f) in
      rw (p.1, q.1) at (octet-good (omega (arith, ltb-true (hex_digit h) 16 p.0)) (omega (arith, ltb-true (hex_digit l) 16 q.0)))

  pub high-bad : 15 < hex_digit h → octet_of h l ≡ none
  unfolding octet_of when
  high-bad a = rw (lt-leb (hex_digit h) 15 a)

  pub low-bad : 15 < hex_digit l → octet_of h l ≡ none
  unfolding octet_of when
  low-bad b = rw (lt-leb (hex_digit l) 15 b, and-false-right (leb (hex_digit h) 15))

  pub no-high : none ≡ when (ltb (hex_digit h) 16) (hex_digit h) → octet_of h l ≡ none
  no-high e = high-bad (omega (arith, ltb-false (hex_digit h) 16 (when-none _ _ (sym e))))

  pub no-low : none ≡ when (ltb (hex_digit l) 16) (hex_digit l) → octet_of h l ≡ none
  no-low e = low-bad (omega (arith, ltb-false (hex_digit l) 16 (when-none _ _ (sym e))))

-- a digit alone is no octet
odd-end : (s : List ℕ) → 0 < length s → length s < 2 → frame_of s ≡ none
unfolding frame_of
odd-end [] h k = absurd (omega arith)
odd-end (x ∷ []) h k = refl
odd-end (x ∷ y ∷ s) h k = absurd (omega arith)

pair-front : (s : List ℕ) → 2 ≤ length s → frame_of s ≡ both? ◌∷◌ (octet_of (get_or s 0 0) (get_or s 1 0)) (frame_of (take (length s - 2) (drop 2 s)))
pair-front s h = rw (from s 2) (by s h)
  where
    by : (s : List ℕ) → 2 ≤ length s → frame_of s ≡ both? ◌∷◌ (octet_of (get_or s 0 0) (get_or s 1 0)) (frame_of (drop 2 s))
    by [] h = absurd (omega arith)
    by (x ∷ []) h = absurd (omega arith)
    by (x ∷ y ∷ s) h = unfold frame_of in refl

even-end : (s : List ℕ) → length s ≡ 0 → frame_of s ≡ some []
unfolding frame_of
even-end [] h = refl
even-end (x ∷ s) h = absurd (omega arith)

-- what is left behind two octets
pub part-size : (s : List ℕ) → 2 ≤ length s → length (take (length s - 2) (drop 2 s)) ≡ length s - 2
part-size s h = rw (from s 2, length-drop 2 s)

pub some-left : (s : List ℕ) → (length s ≡ 0 → ⊥) → 0 < length s
some-left [] h = absurd (h refl)
some-left (x ∷ s) h = omega arith

-- the first n octets of a frame are decoded, and these digits are left
pub record Decoded (line : List ℕ) (n : ℕ) (frame left : List ℕ) : Type 0 where
  pub is : frame_of line ≡ map? (λ r. take n frame ++ r) (frame_of left)

map_same : {A : Type 0} (o : Option A) → o ≡ map? (λ a. a) o
unfolding map?
map_same none = refl
map_same (some a) = refl

map-onto : {A B : Type 0} (f g : List A → B) (x : A) → ((r : List A) → f (x ∷ r) ≡ g r) → (o : Option (List A)) → map? f (both? ◌∷◌ (some x) o) ≡ map? g o
unfolding map? both?
map-onto f g x e none = refl
map-onto f g x e (some r) = ap some (e r)

-- what the answer says of the row
pub no-digits : (line frame : List ℕ) → row_of line ≡ none → then? (map? (λ n. take n frame) none) entry_of ≡ row_of line
unfolding then? map?
no-digits line frame e = sym e

module _ (line frame : List ℕ) where
  pub decoded-none : Decoded line 0 frame line
  decoded-none = record { is = map_same (frame_of line) }

  module _ {n : ℕ} {left : List ℕ} (d : Decoded line n frame left) where
    stopped : frame_of left ≡ none → row_of line ≡ none
    unfolding row_of then? map?
    stopped e = rw (d.is, e)

    pub odd-digits : 0 < length left → length left < 2 → row_of line ≡ none
    odd-digits h k = stopped (odd-end left h k)

    pub whole-frame : length left ≡ 0 → then? (map? (λ n. take n frame) (some n)) entry_of ≡ row_of line
    unfolding row_of then? map?
    whole-frame h = rw (d.is, even-end left h, append-nil (take n frame))

    module _ (g : 2 ≤ length left) where
      pub bad-digits : octet_of (get_or left 0 0) (get_or left 1 0) ≡ none → row_of line ≡ none
      unfolding both?
      bad-digits e = stopped (pair-front left g ∙ rw e)

      pub decoded-more : (x : ℕ) → n < length frame → octet_of (get_or left 0 0) (get_or left 1 0) ≡ some x → Decoded line (n + 1) (set frame n x) (take (length left - 2) (drop 2 left))
      decoded-more x k e = record {
        is = d.is ∙ rw (pair-front left g, e, add-one, take-suc-set frame n x k) (map-onto (λ r. take n frame ++ r) (λ r. take n frame ++ (x ∷ []) ++ r) x (λ r. sym (append_assoc (take n frame) (x ∷ []) r)) (frame_of (take (length left - 2) (drop 2 left))));
      }

-- a frame has an octet for each two digits
frame-length : (s f : List ℕ) → frame_of s ≡ some f → length s ≡ 2 * length f
unfolding frame_of
frame-length [] f e = let q : [] ≡ f = some_same e in rw (← q)
frame-length (h ∷ []) f e = missing e
frame-length (h ∷ l ∷ s) f e =
    both_is ◌∷◌ (octet_of h l) (frame_of s) f e
    (λ x g _ k q. rw (← q) (more (length s) (length g) (frame-length s g k)))
  where
    more : (a b : ℕ) → a ≡ 2 * b → suc (suc a) ≡ 2 * suc b
    more a b e = omega arith

pub long-line : (line : List ℕ) → 68 < length line → row_of line ≡ none
unfolding row_of
long-line line h = by (frame_of line) refl
  where
    by : (o : Option (List ℕ)) → frame_of line ≡ o → then? o entry_of ≡ none
    by none e = unfold then? in refl
    by (some f) e = unfold then? in too_long f (let q = frame-length line f e in omega arith)

-- of the fourteen codes all but four split, and none beyond them
pub splits-each : (c : ℕ) → 1 ≤ c → c ≤ 14 → (c ≡ 1 → ⊥) → (c ≡ 3 → ⊥) → (c ≡ 10 → ⊥) → (c ≡ 13 → ⊥) → type_splits c ≡ true
unfolding type_splits
splits-each c h k a b d e = rw (within-between 1 14 c h k, ne_eqb c 1 a, ne_eqb c 3 b, ne_eqb c 10 d, ne_eqb c 13 e)

pub splits-beyond : (c : ℕ) → 13 ≤ c → (c ≡ 13 → ⊥) → (c ≡ 14 → ⊥) → type_splits c ≡ false
unfolding type_splits
splits-beyond c h a b = rw (above-between 1 14 c (omega arith))
