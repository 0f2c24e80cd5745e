-- The laws of float and integer values, and of GEO: what is read is a JSON number, is written as it stands in jCal, and is read again.
use Prim.Native.Nat.{ℕ, ◌-◌}
use Prim.Native.Char.{code}
use mathlib.Core.Path.{◌≡◌, refl, ◌∙◌}
use mathlib.Core.Bool.{Bool, true, false, not}
use mathlib.Core.List.{List, [], ◌∷◌}
use mathlib.Core.Option.{Option, some}
use native.Mathlib.Omega.{arith}
use borrow.Author.Tests.{eqb-true}
use lib.Dec.{eqb}
use lib.ListN.{get_or, length}
use lib.Seq.{take-length}
use Rattle.octets.specs.Basics.{◌and◌, ◌or◌, all, filled}
use Rattle.octets.specs.Pieces.{onto, cut, split, joined}
use Rattle.octets.specs.Optional.{map?, both?, is_some, when, holds, given}
use Rattle.octets.specs.Classes.{between, is_digit}
use Rattle.octets.specs.Utf8.{clean}
use Rattle.octets.specs.Decimal.{digits, value_of, minus, unsigned, trim, minus_if, integer_text}
use Rattle.octets.specs.Limits.{most_integer}
use Rattle.octets.proofs.Cases.{cases, same?, never, both, and-true, either, or-first, apart, all_weaker, all_append, All-weaker, all-All}
use Rattle.octets.proofs.Classes.{between-true, within-between}
use Rattle.octets.proofs.Optional.{missing, when-is, map_is, both_is}
use Rattle.octets.proofs.Pieces.{Free, split-last, split-joined, split-filled, joined-split}
use Rattle.octets.proofs.Utf8.{printable-clean}
use Rattle.octets.proofs.Decimal.{DigitFirst, digits-first, digits-all, trim-twice, trim_digits, unsigned-minus_if, minus-minus_if, all-minus_if, integer-minus, integer-unsigned, integer-value, integer-twice}
use Rattle.json_text.specs.Tree.{Json, num, arr, no_items, item, string?, number?, array?, list_of_items, octets_of, elements}
use Rattle.json_text.specs.Reads.{ok}
use Rattle.json_text.specs.Numbers.{NumberPlace, start, minus as signed, zero as nought, int, point, frac, behind_int, first_digit, advance, is_beyond, number_ends, scan, number_read}
use Rattle.tape.proofs.Values.{number-octets}
use Rattle.values.specs.Sorts.{Sort, float, geo, integer}
use Rattle.values.specs.Simple.{pointed, float_of, in_range, integer_of}
use Rattle.values.specs.Read.{as_number, geo_of, read_geo}
use Rattle.values.specs.Write.{is_number, is_two, is_array, value_is, elements_text, value_text}
use Rattle.values.proofs.Neat.{Neat, n-num, n-arr, n-none, n-item, clean-textual}
use Rattle.values.proofs.ListLaws.{Item, ItemLaw, CommaLaw, ListLaw}

no_digit : is_digit 0 ≡ false
unfolding is_digit between
no_digit = refl

no-point : (c : ℕ) → is_digit c ≡ true → eqb c (code ".") ≡ false
no-point c h = apart is_digit c (code ".") h (unfold is_digit between in refl)

-- Digits with a point or none: an octet in front of them
onto-first : (c : ℕ) (ls : List (List ℕ)) → pointed (onto c ls) ≡ true → is_digit c ≡ true
unfolding pointed onto digits filled all
onto-first c [] h = (both (is_digit c) _ h).0
onto-first c (w ∷ []) h = (both (is_digit c) _ h).0
onto-first c (w ∷ f ∷ []) h = (both (is_digit c) _ (both _ _ h).0).0
onto-first c (w ∷ f ∷ g ∷ l) h = never h refl

onto-rest : (c d : ℕ) (ls : List (List ℕ)) → pointed (onto c (onto d ls)) ≡ true → pointed (onto d ls) ≡ true
unfolding pointed onto digits filled all
onto-rest c d [] h = (both (is_digit c) _ h).1
onto-rest c d (w ∷ []) h = (both (is_digit c) _ h).1
onto-rest c d (w ∷ f ∷ []) h =
    let b = both (is_digit c and (is_digit d and all is_digit w)) _ h in
    and-true (both (is_digit c) _ b.0).1 b.1
onto-rest c d (w ∷ f ∷ g ∷ l) h = h

no_front : (ls : List (List ℕ)) → pointed ([] ∷ ls) ≡ false
unfolding pointed digits filled
no_front [] = refl
no_front (f ∷ []) = refl
no_front (f ∷ g ∷ l) = refl

-- digits behind the point
fraction : (w : List ℕ) (ls : List (List ℕ)) → (ls ≡ [] → ⊥) → pointed (w ∷ ls) ≡ true → digits (joined (code ".") ls) ≡ true
unfolding pointed joined
fraction w [] n h = absurd (n refl)
fraction w (f ∷ []) n h = (both (digits w) (digits f) h).1
fraction w (f ∷ g ∷ l) n h = never h refl

abbrev Pointed : List ℕ → Type 0
Pointed s = pointed (split (code ".") s) ≡ true

pointed-first : (s : List ℕ) → Pointed s → DigitFirst s
unfolding split cut
pointed-first [] h = never h (no_front [])
pointed-first (c ∷ s) h = cases (eqb c (code "."))
    (λ e. never (rw e at h) (no_front (split (code ".") s)))
    (λ e. onto-first c (split (code ".") s) (rw e at h))

-- what follows a digit: a point and digits, or again a digit
module _ (c d : ℕ) (s : List ℕ) (digit : is_digit c ≡ true) (h : Pointed (c ∷ d ∷ s)) where
  behind-point : d ≡ code "." → digits s ≡ true
  unfolding split cut onto
  behind-point e = rw (joined-split (code ".") s) at (fraction (c ∷ []) (split (code ".") s) (split-filled (code ".") s) (rw (no-point c digit, e) at h))

  behind-digit : eqb d (code ".") ≡ false → (is_digit d ≡ true) × Pointed (d ∷ s)
  unfolding split cut
  behind-digit n =
      let k : pointed (onto d (split (code ".") s)) ≡ true = onto-rest c d (split (code ".") s) (rw (no-point c digit, n) at h) in
      (onto-first d (split (code ".") s) k, rw n k)

pointed-rest : (c : ℕ) (s : List ℕ) → is_digit c ≡ true → DigitFirst s → Pointed (c ∷ s) → Pointed s
pointed-rest c [] a b h = never b no_digit
pointed-rest c (d ∷ s) a b h = (behind-digit c d s a h (no-point d b)).1

pointed-trim : (s : List ℕ) → Pointed s → Pointed (trim s)
unfolding trim
pointed-trim [] h = h
pointed-trim (c ∷ s) h = cases (eqb c (code "0") and is_digit (get_or s 0 0))
    (λ e. let b = both (eqb c (code "0")) (is_digit (get_or s 0 0)) e in
    rw e (pointed-trim s (pointed-rest c s (pointed-first (c ∷ s) h) b.1 h)))
    (λ e. rw e h)

digits-pointed : (s : List ℕ) → digits s ≡ true → Pointed s
unfolding pointed
digits-pointed s h = rw (split-last (code ".") s (All-weaker no-point s (all-All is_digit s (digits-all s h)))) h

-- no zero that a digit follows
abbrev Trimmed : List ℕ → Type 0
Trimmed [] = Unit {0}
Trimmed (c ∷ s) = (eqb c (code "0") and is_digit (get_or s 0 0)) ≡ false

trimmed : (s : List ℕ) → Trimmed (trim s)
unfolding trim
trimmed [] = tt
trimmed (c ∷ s) = cases (eqb c (code "0") and is_digit (get_or s 0 0)) (λ e. rw e (trimmed s)) (λ e. rw e e)

-- The number is scanned to its end.
abbrev Scanned : NumberPlace → List ℕ → Type 0
Scanned q s = scan q s ≡ ok tt []

scan-on : (q r : NumberPlace) (c : ℕ) (s : List ℕ) → advance q c ≡ r → is_beyond r ≡ false → Scanned r s → Scanned q (c ∷ s)
unfolding scan
scan-on q r c s e n h = rw (e, n, h)

frac-scan : (s : List ℕ) → all is_digit s ≡ true → Scanned frac s
unfolding all
frac-scan [] h = unfold scan number_ends in refl
frac-scan (c ∷ s) h =
    let b = both (is_digit c) (all is_digit s) h in
    scan-on frac frac c s (unfold advance in rw b.0) (unfold is_beyond in refl) (frac-scan s b.1)

point-scan : (s : List ℕ) → digits s ≡ true → Scanned point s
point-scan [] h = never h (unfold digits filled in refl)
point-scan (c ∷ s) h =
    scan-on point frac c s (unfold advance in rw (digits-first (c ∷ s) h)) (unfold is_beyond in refl)
    (frac-scan s (unfold all in (both (is_digit c) (all is_digit s) (digits-all (c ∷ s) h)).1))

int-scan : (c : ℕ) (s : List ℕ) → is_digit c ≡ true → Pointed (c ∷ s) → Scanned int s
int-scan c [] a h = unfold scan number_ends in refl
int-scan c (d ∷ s) a h = same? d (code ".")
    (λ e. scan-on int point d s (rw e (unfold advance behind_int is_digit between in refl)) (unfold is_beyond in refl) (point-scan s (behind-point c d s a h e)))
    (λ n. let k = behind-digit c d s a h n in
    scan-on int int d s (unfold advance in rw k.0) (unfold is_beyond in refl) (int-scan d s k.0 k.1))

nought-scan : (c : ℕ) (s : List ℕ) → is_digit c ≡ true → is_digit (get_or s 0 0) ≡ false → Pointed (c ∷ s) → Scanned nought s
nought-scan c [] a z h = unfold scan number_ends in refl
nought-scan c (d ∷ s) a z h = same? d (code ".")
    (λ e. scan-on nought point d s (rw e (unfold advance behind_int in refl)) (unfold is_beyond in refl) (point-scan s (behind-point c d s a h e)))
    (λ n. never (behind-digit c d s a h n).0 z)

first-scan : (q : NumberPlace) → ((c : ℕ) → is_digit c ≡ true → advance q c ≡ first_digit c) → (s : List ℕ) → Trimmed s → Pointed s → Scanned q s
first-scan q f [] t h = never (pointed-first [] h) no_digit
first-scan q f (c ∷ s) t h =
    let a = pointed-first (c ∷ s) h in
    cases (eqb c (code "0"))
    (λ e. scan-on q nought c s (f c a ∙ (unfold first_digit in rw e)) (unfold is_beyond in refl) (nought-scan c s a (rw e at t) h))
    (λ e. scan-on q int c s (f c a ∙ (unfold first_digit in rw (e, a))) (unfold is_beyond in refl) (int-scan c s a h))

signed-scan : (b : Bool) (s : List ℕ) → Trimmed s → Pointed s → Scanned start (minus_if b s)
unfolding minus_if
signed-scan true s t h = scan-on start signed (code "-") s (unfold advance in refl) (unfold is_beyond in refl) (first-scan signed (λ c a. unfold advance in refl) s t h)
signed-scan false s t h = first-scan start (λ c a. unfold advance in rw (apart is_digit c (code "-") a (unfold is_digit between in refl))) s t h

scanned-number : (t : List ℕ) → Scanned start t → number_read t ≡ ok t []
unfolding number_read
scanned-number t h = let n : length t - 0 ≡ length t = omega arith in rw (h, n, take-length t)

-- Its octets separate nothing.
unfoldable pub figure_octet : ℕ → Bool
figure_octet c = is_digit c or eqb c (code "-") or eqb c (code ".")

digit-figure : (c : ℕ) → is_digit c ≡ true → figure_octet c ≡ true
unfolding figure_octet
digit-figure c h = or-first _ h

digits-figures : (s : List ℕ) → digits s ≡ true → all figure_octet s ≡ true
digits-figures s h = all_weaker is_digit figure_octet digit-figure s (digits-all s h)

point-figures : (s : List ℕ) → digits s ≡ true → all figure_octet (code "." ∷ s) ≡ true
unfolding all figure_octet is_digit between
point-figures s h = digits-figures s h

pieces-figures : (ls : List (List ℕ)) → pointed ls ≡ true → all figure_octet (joined (code ".") ls) ≡ true
unfolding pointed joined
pieces-figures [] h = never h refl
pieces-figures (w ∷ []) h = digits-figures w h
pieces-figures (w ∷ f ∷ []) h =
    let b = both (digits w) (digits f) h in
    all_append figure_octet w (code "." ∷ f) ∙ and-true (digits-figures w b.0) (point-figures f b.1)
pieces-figures (w ∷ f ∷ g ∷ l) h = never h refl

figures-free : (sep : ℕ) → figure_octet sep ≡ false → (t : List ℕ) → all figure_octet t ≡ true → Free sep t
figures-free sep n t h = All-weaker (λ c e. apart figure_octet c sep e n) t (all-All figure_octet t h)

figure-printable : (c : ℕ) → figure_octet c ≡ true → between 32 126 c ≡ true
unfolding figure_octet is_digit
figure-printable c h = either (between (code "0") (code "9") c) _ h
    (λ e. let b = between-true (code "0") (code "9") c e in within-between 32 126 c (omega arith) (omega arith))
    (λ k. either (eqb c (code "-")) (eqb c (code ".")) k
    (λ e. rw (eqb-true c (code "-") e) (unfold between in refl))
    (λ e. rw (eqb-true c (code ".") e) (unfold between in refl)))

-- a number as it is read
pub record Numeral (t : List ℕ) : Type 0 where
  pub number_is : number_read t ≡ ok t []
  pub figures : all figure_octet t ≡ true

pub numeral : (b : Bool) (s : List ℕ) → Trimmed s → Pointed s → Numeral (minus_if b s)
numeral b s t h = record {
  number_is = scanned-number (minus_if b s) (signed-scan b s t h);
  figures = all-minus_if figure_octet (unfold figure_octet is_digit between in refl) b s (rw (joined-split (code ".") s) at (pieces-figures (split (code ".") s) h));
}

pub numeral-clean : {t : List ℕ} → Numeral t → clean t ≡ true
numeral-clean {t} h = printable-clean t (all_weaker figure_octet (between 32 126) figure-printable t h.figures)

pub numeral-neat : {d : ℕ} {t : List ℕ} → Numeral t → Neat d (num t)
numeral-neat {d} {t} h = n-num h.number_is (clean-textual t (numeral-clean h)).encoded

-- floats
pub record Float (t : List ℕ) : Type 0 where
  pub again : float_of t ≡ some t
  pub numeral : Numeral t

pub float_read : (s t : List ℕ) → float_of s ≡ some t → Float t
unfolding float_of when
float_read s t e =
    let w = when-is (pointed (split (code ".") (unsigned s))) (minus_if (minus s) (trim (unsigned s))) t e in
    let p = pointed-trim (unsigned s) w.0 in
    let f = pointed-first (trim (unsigned s)) p in
    rw (← w.1) (record {
      again = rw (unsigned-minus_if (minus s) (trim (unsigned s)) f, minus-minus_if (minus s) (trim (unsigned s)) f, trim-twice (unsigned s), p);
      numeral = numeral (minus s) (trim (unsigned s)) (trimmed (unsigned s)) p;
    })

-- integers
range-zero : (m : Bool) (v : ℕ) → in_range m v ≡ true → in_range (m and not (eqb v 0)) v ≡ true
unfolding in_range most_integer
range-zero false v h = h
range-zero true v h = cases (eqb v 0) (λ e. rw (e, eqb-true v 0 e)) (λ e. rw e h)

pub record Integer (t : List ℕ) : Type 0 where
  pub again : integer_of t ≡ some t
  pub text : integer_text t ≡ t
  pub numeral : Numeral t

pub integer-numeral : (s : List ℕ) → digits (unsigned s) ≡ true → Numeral (integer_text s)
unfolding integer_text
integer-numeral s h =
    numeral (minus s and not (eqb (value_of (unsigned s)) 0)) (trim (unsigned s)) (trimmed (unsigned s)) (digits-pointed (trim (unsigned s)) (trim_digits (unsigned s) h))

pub integer-read : (s t : List ℕ) → integer_of s ≡ some t → Integer t
unfolding integer_of when
integer-read s t e =
    let w = when-is (digits (unsigned s) and in_range (minus s) (value_of (unsigned s))) (integer_text s) t e in
    let d = both (digits (unsigned s)) (in_range (minus s) (value_of (unsigned s))) w.0 in
    let f = digits-first (unsigned s) d.0 in
    let g : digits (unsigned (integer_text s)) ≡ true = rw (integer-unsigned s f) (trim_digits (unsigned s) d.0) in
    let r : in_range (minus (integer_text s)) (value_of (unsigned (integer_text s))) ≡ true
    = rw (integer-minus s f, integer-value s f) (range-zero (minus s) (value_of (unsigned s)) d.1) in
    rw (← w.1) (record { again = rw (g, r, integer-twice s f); text = integer-twice s f; numeral = integer-numeral s d.0 })

-- values
number-test : (f : List ℕ → Option (List ℕ)) (t : List ℕ) → f t ≡ some t → is_number f (num t) ≡ true
unfolding is_number holds number? is_some
number-test f t e = rw e

number-again : (f : List ℕ → Option (List ℕ)) (t : List ℕ) → f t ≡ some t → as_number f t ≡ some (num t)
unfolding as_number map?
number-again f t e = rw e

no-comma : figure_octet (code ",") ≡ false
unfolding figure_octet is_digit between
no-comma = refl

no-semicolon : figure_octet (code ";") ≡ false
unfolding figure_octet is_digit between
no-semicolon = refl

module _ (sort : Sort) (f : List ℕ → Option (List ℕ)) (tests : (j : Json) → value_is sort j ≡ is_number f j)
    (law : (s t : List ℕ) → f s ≡ some t → (f t ≡ some t) × Numeral t × (value_text sort (num t) ≡ t)) where
  number-item : ItemLaw sort (as_number f)
  unfolding as_number
  number-item s j e = map_is num (f s) j e (λ t q w.
      let r = law s t q in
      rw (← w) (record {
        again = rw r.2 (number-again f t r.0);
        is = tests (num t) ∙ number-test f t r.0;
        line = λ c. rw r.2 (numeral-clean r.1);
        neat = λ c. numeral-neat r.1;
      }))

  number-comma : CommaLaw sort (as_number f)
  unfolding as_number
  number-comma s j h e = map_is num (f s) j e (λ t q w.
      let r = law s t q in
      rw (← w, r.2) (figures-free (code ",") no-comma t r.1.figures))

pub float-law : ListLaw float (as_number float_of)
float-law = (number-item float float_of tests law, number-comma float float_of tests law)
  where
    tests : (j : Json) → value_is float j ≡ is_number float_of j
    tests j = unfold value_is in refl

    law : (s t : List ℕ) → float_of s ≡ some t → (float_of t ≡ some t) × Numeral t × (value_text float (num t) ≡ t)
    law s t e = let r = float_read s t e in (r.again, r.numeral, unfold value_text in number-octets t)

pub integer-law : ListLaw integer (as_number integer_of)
integer-law = (number-item integer integer_of tests law, number-comma integer integer_of tests law)
  where
    tests : (j : Json) → value_is integer j ≡ is_number integer_of j
    tests j = unfold value_is in refl

    law : (s t : List ℕ) → integer_of s ≡ some t → (integer_of t ≡ some t) × Numeral t × (value_text integer (num t) ≡ t)
    law s t e = let r = integer-read s t e in (r.again, r.numeral, unfold value_text in (rw (number-octets t) r.text))

-- GEO
module _ (x y : List ℕ) (hx : Float x) (hy : Float y) where
  abbrev pair : Json
  pair = arr (item (num x) (item (num y) no_items))

  pair-text : value_text geo pair ≡ joined (code ";") (x ∷ y ∷ [])
  unfolding value_text elements_text elements array? given list_of_items octets_of number? string?
  pair-text = refl

  pair_is : value_is geo pair ≡ true
  unfolding value_is is_array is_two holds array? list_of_items
  pair_is = and-true (number-test float_of x hx.again) (number-test float_of y hy.again)

  pair-again : read_geo (joined (code ";") (x ∷ y ∷ [])) ≡ some pair
  unfolding read_geo
  pair-again = rw (split-joined (code ";") x (y ∷ []) (figures-free (code ";") no-semicolon x hx.numeral.figures, (figures-free (code ";") no-semicolon y hy.numeral.figures, tt))) reads
    where
      reads : geo_of (x ∷ y ∷ []) ≡ some pair
      reads = unfold geo_of both? in rw (hx.again, hy.again)

  pair-clean : clean (joined (code ";") (x ∷ y ∷ [])) ≡ true
  pair-clean = printable-clean (joined (code ";") (x ∷ y ∷ [])) (unfold joined in (
      all_append (between 32 126) x (code ";" ∷ y)
      ∙ and-true (all_weaker figure_octet (between 32 126) figure-printable x hx.numeral.figures)
      (unfold all between in all_weaker figure_octet (between 32 126) figure-printable y hy.numeral.figures)))

  pair-item : (s : List ℕ) → Item geo read_geo s pair
  pair-item s = record {
    again = rw pair-text pair-again;
    is = pair_is;
    line = λ c. rw pair-text pair-clean;
    neat = λ c. n-arr (n-item (numeral-neat hx.numeral) (n-item (numeral-neat hy.numeral) n-none));
  }

pieces-item : (s : List ℕ) (ls : List (List ℕ)) (j : Json) → geo_of ls ≡ some j → Item geo read_geo s j
unfolding geo_of
pieces-item s [] j e = missing e
pieces-item s (a ∷ []) j e = missing e
pieces-item s (a ∷ b ∷ []) j e =
    both_is (λ x y. arr (item (num x) (item (num y) no_items))) (float_of a) (float_of b) j e (λ x y p q w. rw (← w) (pair-item x y (float_read a x p) (float_read b y q) s))
pieces-item s (a ∷ b ∷ c ∷ ls) j e = missing e

pub geo-law : ItemLaw geo read_geo
unfolding read_geo
geo-law s j e = pieces-item s (split (code ";") s) j e
