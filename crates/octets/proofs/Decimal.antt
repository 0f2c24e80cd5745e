-- Laws of decimal numbers: their value, their figures, leading zeros and signs.
use Prim.Native.Nat.{ℕ, zero, suc, ◌+◌, ◌-◌, ◌*◌, ◌/◌, ◌%◌, ◌^◌, ◌≤◌, ◌<◌, min}
use Prim.Native.Char.{code}
use mathlib.Core.Path.{◌≡◌, refl, sym, ap, ◌∙◌}
use mathlib.Core.Bool.{Bool, true, false, not}
use mathlib.Core.List.{List, [], ◌∷◌, ◌++◌}
use native.Mathlib.Nat.{pow-suc, pow-succ', div-one, div-div-eq-div-mul}
use native.Mathlib.Omega.{arith}
use borrow.Author.Tests.{eqb-true, ne_eqb}
use lib.Arith.{digits_div}
use lib.Dec.{eqb}
use lib.ListN.{length, get_or, take, drop, length-append}
use Rattle.octets.specs.Basics.{◌and◌, all, filled}
use Rattle.octets.specs.Classes.{between, is_digit}
use Rattle.octets.specs.Decimal.{digits, value_from, value_of, figures, is_sign, minus, unsigned, trim, minus_if, decimal, integer_text}
use Rattle.octets.proofs.Cases.{cases, same?, never, both, and-true, and-false-right, or-false, apart, all_append}
use Rattle.octets.proofs.Positions.{here, ended, first_of, from}
use Rattle.octets.proofs.Classes.{within-between}

-- a digit's value
pub value-digit : (d : ℕ) → d < 10 → is_digit (code "0" + d) ≡ true
unfolding is_digit
value-digit d h = within-between (code "0") (code "9") (code "0" + d) (omega arith) (omega arith)

-- one digit more behind
pub value-more : (a : ℕ) (s : List ℕ) (c : ℕ) → value_from a (s ++ c ∷ []) ≡ value_from a s * 10 + (c - code "0")
unfolding value_from
value-more a [] c = refl
value-more a (x ∷ s) c = value-more (a * 10 + (x - code "0")) s c

-- figures
pub figures-length : (w n : ℕ) → length (figures w n) ≡ w
unfolding figures
figures-length zero n = refl
figures-length (suc w) n = rw (length-append, figures-length w (n / 10)) (omega arith)

pub figures-digits : (w n : ℕ) → all is_digit (figures w n) ≡ true
unfolding figures
figures-digits zero n = unfold all in refl
figures-digits (suc w) n =
    all_append is_digit (figures w (n / 10)) ((code "0" + n % 10) ∷ [])
    ∙ and-true (figures-digits w (n / 10)) (unfold all in and-true (value-digit (n % 10) (omega arith)) refl)

pub figures-value : (w n : ℕ) → n < 10 ^ w → value_of (figures w n) ≡ n
unfolding figures value_of
figures-value zero n h = unfold value_from in omega arith
figures-value (suc w) n h =
    let k : n / 10 < 10 ^ w = omega (arith, pow-suc 10 w) in
    value-more 0 (figures w (n / 10)) (code "0" + n % 10) ∙ rw (figures-value w (n / 10) k) (omega arith)

-- from the front
pub figures-front : (w n : ℕ) → figures (suc w) n ≡ (code "0" + n / 10 ^ w % 10) ∷ figures w n
unfolding figures
figures-front zero n = rw (div-one n)
figures-front (suc w) n =
    rw (figures-front w (n / 10), div-div-eq-div-mul n 10 (10 ^ w), ← (pow-succ' 10 w))

-- a value that is capped
cap-step : (a d m : ℕ) → min (min a m * 10 + d) m ≡ min (a * 10 + d) m
cap-step a d m = omega arith

pub capped : (a : ℕ) (s : List ℕ) (m : ℕ) → min (value_from (min a m) s) m ≡ min (value_from a s) m
unfolding value_from
capped a [] m = omega arith
capped a (c ∷ s) m =
    sym (capped (min a m * 10 + (c - code "0")) s m)
    ∙ ap (λ (v : ℕ). min (value_from v s) m) (cap-step a (c - code "0") m)
    ∙ capped (a * 10 + (c - code "0")) s m

-- leading zeros, from a position on
module _ (s : List ℕ) (i : ℕ) (h : i < length s) where
  pub trim-on : get_or s i 0 ≡ code "0" → is_digit (get_or s (i + 1) 0) ≡ true → trim (drop i s) ≡ trim (drop (i + 1) s)
  unfolding trim
  trim-on e d = rw (here s i h, e, first_of s (i + 1), d)

  pub trim-other : (get_or s i 0 ≡ code "0" → ⊥) → trim (drop i s) ≡ drop i s
  unfolding trim
  trim-other n = rw (here s i h, ne_eqb (get_or s i 0) (code "0") n)

  pub trim-last : is_digit (get_or s (i + 1) 0) ≡ false → trim (drop i s) ≡ drop i s
  unfolding trim
  trim-last d = rw (here s i h, first_of s (i + 1), d, and-false-right (eqb (get_or s i 0) (code "0")))

pub trim_end : (s : List ℕ) (i : ℕ) → length s ≤ i → trim (drop i s) ≡ drop i s
unfolding trim
trim_end s i h = rw (ended s i h)

-- a capped value, from a position on
pub value_on : (s : List ℕ) (i : ℕ) → i < length s → (a m : ℕ)
    → min (value_from (min (a * 10 + (get_or s i 0 - 48)) m) (drop (i + 1) s)) m ≡ min (value_from a (drop i s)) m
unfolding value_from
value_on s i h a m = capped (a * 10 + (get_or s i 0 - 48)) (drop (i + 1) s) m ∙ rw (here s i h)

pub value-end : (s : List ℕ) (i : ℕ) → length s ≤ i → (a m : ℕ) → a ≤ m → a ≡ min (value_from a (drop i s)) m
unfolding value_from
value-end s i h a m k = rw (ended s i h) (omega arith)

-- the sign in front
pub sign_there : (s : List ℕ) → is_sign (get_or s 0 0) ≡ true → 1 ≤ length s
unfolding is_sign
sign_there [] e = never e refl
sign_there (c ∷ s) e = omega arith

pub unsigned-sign : (s : List ℕ) → is_sign (get_or s 0 0) ≡ true → unsigned s ≡ drop 1 s
unfolding unsigned
unsigned-sign [] e = refl
unsigned-sign (c ∷ s) e = rw e

pub unsigned-bare : (s : List ℕ) → is_sign (get_or s 0 0) ≡ false → unsigned s ≡ s
unfolding unsigned
unsigned-bare [] e = refl
unsigned-bare (c ∷ s) e = rw e

-- a value capped at one tells 0 from the rest
pub capped-zero : (v : ℕ) → eqb (min v (0 + 1)) 0 ≡ eqb v 0
capped-zero zero = refl
capped-zero (suc v) = ne_eqb (min (suc v) (0 + 1)) 0 (λ e. omega arith) ∙ sym (ne_eqb (suc v) 0 (λ e. omega arith))

-- an integer's text, where the sign has r octets
module _ (s : List ℕ) (r : ℕ) (u : unsigned s ≡ drop r s) where
  pub negative-text : (minus s and not (eqb (value_of (unsigned s)) 0)) ≡ true → code "-" ∷ trim (take (length s - r) (drop r s)) ≡ integer_text s
  unfolding integer_text minus_if
  negative-text e = rw (e, from s r, u)

  pub other_text : (minus s and not (eqb (value_of (unsigned s)) 0)) ≡ false → trim (take (length s - r) (drop r s)) ≡ integer_text s
  unfolding integer_text minus_if
  other_text e = rw (e, from s r, u)

-- a digit in front
abbrev pub DigitFirst : List ℕ → Type 0
DigitFirst s = is_digit (get_or s 0 0) ≡ true

no_digit : is_digit 0 ≡ false
unfolding is_digit between
no_digit = refl

pub digits-first : (s : List ℕ) → digits s ≡ true → DigitFirst s
unfolding digits filled all
digits-first [] h = never h refl
digits-first (c ∷ s) h = (both (is_digit c) (all is_digit s) h).0

pub digits-all : (s : List ℕ) → digits s ≡ true → all is_digit s ≡ true
unfolding digits
digits-all s h = (both (filled s) (all is_digit s) h).1

pub all_digits : (s : List ℕ) → DigitFirst s → all is_digit s ≡ true → digits s ≡ true
unfolding digits filled
all_digits [] f h = never f no_digit
all_digits (c ∷ s) f h = h

pub digit-no-sign : (c : ℕ) → is_digit c ≡ true → is_sign c ≡ false
unfolding is_sign
digit-no-sign c h =
    or-false (apart is_digit c (code "+") h (unfold is_digit between in refl)) (apart is_digit c (code "-") h (unfold is_digit between in refl))

pub unsigned-digits : (s : List ℕ) → DigitFirst s → unsigned s ≡ s
unsigned-digits s h = unsigned-bare s (digit-no-sign (get_or s 0 0) h)

-- the sign that is put in front is the sign that is read
pub unsigned-minus_if : (b : Bool) (s : List ℕ) → DigitFirst s → unsigned (minus_if b s) ≡ s
unfolding minus_if
unsigned-minus_if true s h = unfold unsigned is_sign in refl
unsigned-minus_if false s h = unsigned-digits s h

pub minus-minus_if : (b : Bool) (s : List ℕ) → DigitFirst s → minus (minus_if b s) ≡ b
unfolding minus minus_if
minus-minus_if true s h = refl
minus-minus_if false s h = apart is_digit (get_or s 0 0) (code "-") h (unfold is_digit between in refl)

-- leading zeros dropped: nothing more is dropped, and value and digits stay
pub trim-twice : (s : List ℕ) → trim (trim s) ≡ trim s
unfolding trim
trim-twice [] = refl
trim-twice (c ∷ s) = cases (eqb c (code "0") and is_digit (get_or s 0 0)) (λ e. rw e (trim-twice s)) (λ e. rw (e, e))

pub trim-first : (s : List ℕ) → DigitFirst s → DigitFirst (trim s)
unfolding trim
trim-first [] h = h
trim-first (c ∷ s) h = cases (eqb c (code "0") and is_digit (get_or s 0 0))
    (λ e. rw e (trim-first s (both (eqb c (code "0")) (is_digit (get_or s 0 0)) e).1))
    (λ e. rw e h)

pub trim-value : (s : List ℕ) → value_of (trim s) ≡ value_of s
unfolding trim value_of value_from
trim-value [] = refl
trim-value (c ∷ s) = cases (eqb c (code "0") and is_digit (get_or s 0 0))
    (λ e. rw (e, eqb-true c (code "0") (both (eqb c (code "0")) (is_digit (get_or s 0 0)) e).0) (trim-value s))
    (λ e. rw e)

-- what holds of each octet
module _ (p : ℕ → Bool) where
  pub all-trim : (s : List ℕ) → all p s ≡ true → all p (trim s) ≡ true
  unfolding trim all
  all-trim [] h = refl
  all-trim (c ∷ s) h = cases (eqb c (code "0") and is_digit (get_or s 0 0))
      (λ e. rw e (all-trim s (both (p c) (all p s) h).1))
      (λ e. rw e h)

  pub all-minus_if : p (code "-") ≡ true → (b : Bool) (s : List ℕ) → all p s ≡ true → all p (minus_if b s) ≡ true
  unfolding minus_if all
  all-minus_if m true s h = and-true m h
  all-minus_if m false s h = h

pub trim-length : (s : List ℕ) → length (trim s) ≤ length s
unfolding trim
trim-length [] = omega arith
trim-length (c ∷ s) = let h = trim-length s in cases (eqb c (code "0") and is_digit (get_or s 0 0)) (λ e. rw e (omega arith)) (λ e. rw e (omega arith))

pub trim_digits : (s : List ℕ) → digits s ≡ true → digits (trim s) ≡ true
trim_digits s h = all_digits (trim s) (trim-first s (digits-first s h)) (all-trim is_digit s (digits-all s h))

-- a digit more behind a number that is not 0
pub trim-more : (s : List ℕ) (d : ℕ) → all is_digit s ≡ true → 0 < value_of s → trim (s ++ d ∷ []) ≡ trim s ++ d ∷ []
unfolding trim value_of value_from all
trim-more [] d h k = absurd (omega arith)
trim-more (c ∷ []) d h k = rw (ne_eqb c (code "0") (λ e. omega arith))
trim-more (c ∷ x ∷ s) d h k =
    let b = (both (is_digit c) (all is_digit (x ∷ s)) h).1 in
    same? c (code "0")
    (λ e. let z : (0 * 10 + (c - code "0")) * 10 + (x - code "0") ≡ 0 * 10 + (x - code "0") = omega arith in
    rw (e, (both (is_digit x) (all is_digit s) b).0) (trim-more (x ∷ s) d b (rw (← z) k)))
    (λ n. rw n)

-- an integer's text: its sign, its digits and its value
module _ (s : List ℕ) (h : DigitFirst (unsigned s)) where
  pub integer-minus : minus (integer_text s) ≡ (minus s and not (eqb (value_of (unsigned s)) 0))
  unfolding integer_text
  integer-minus = minus-minus_if (minus s and not (eqb (value_of (unsigned s)) 0)) (trim (unsigned s)) (trim-first (unsigned s) h)

  pub integer-unsigned : unsigned (integer_text s) ≡ trim (unsigned s)
  unfolding integer_text
  integer-unsigned = unsigned-minus_if (minus s and not (eqb (value_of (unsigned s)) 0)) (trim (unsigned s)) (trim-first (unsigned s) h)

  pub integer-value : value_of (unsigned (integer_text s)) ≡ value_of (unsigned s)
  integer-value = ap value_of integer-unsigned ∙ trim-value (unsigned s)

  pub integer-twice : integer_text (integer_text s) ≡ integer_text s
  integer-twice = text-by (integer_text s)
      ∙ rw (integer-minus, integer-value, integer-unsigned, trim-twice (unsigned s), and-twice (minus s) (not (eqb (value_of (unsigned s)) 0)))
      (sym (text-by s))
    where
      text-by : (t : List ℕ) → integer_text t ≡ minus_if (minus t and not (eqb (value_of (unsigned t)) 0)) (trim (unsigned t))
      text-by t = unfold integer_text in refl

      and-twice : (a b : Bool) → ((a and b) and b) ≡ (a and b)
      and-twice true true = refl
      and-twice true false = refl
      and-twice false b = refl

-- n in decimal
pub figures-first : (w n : ℕ) → DigitFirst (figures (suc w) n)
figures-first w n = rw (figures-front w n) (value-digit (n / 10 ^ w % 10) (omega arith))

-- a width more than the number has
trim-wide : (w n : ℕ) → n < 10 ^ suc w → trim (figures (suc (suc w)) n) ≡ trim (figures (suc w) n)
unfolding trim
trim-wide w n h =
    let e : 0 * 10 ^ suc w + n ≡ n = omega arith in
    let z : n / 10 ^ suc w ≡ 0 = ap (λ (m : ℕ). m / 10 ^ suc w) (sym e) ∙ digits_div 0 h in
    rw (figures-front (suc w) n, z, figures-first w n)

one-digit : (w n : ℕ) → n < 10 → n < 10 ^ suc w
one-digit zero n h = h
one-digit (suc w) n h = omega (arith, pow-suc 10 (suc w), one-digit w n h)

trim-narrow : (w n : ℕ) → n < 10 → trim (figures (suc w) n) ≡ (48 + n) ∷ []
unfolding figures trim
trim-narrow zero n h = let m : n % 10 ≡ n = omega arith in rw (m, no_digit, and-false-right (eqb (code "0" + n) (code "0")))
trim-narrow (suc w) n h = trim-wide w n (one-digit w n h) ∙ trim-narrow w n h

-- n in decimal as it is written: its one digit, or those in front and the last
pub decimal-one : (n : ℕ) → n < 10 → decimal n ≡ (48 + n) ∷ []
unfolding decimal
decimal-one n h = trim-narrow 19 n h

pub decimal-last : (n : ℕ) → 10 ≤ n → n < 10 ^ 20 → decimal n ≡ decimal (n / 10) ++ (48 + n % 10) ∷ []
unfolding decimal
decimal-last n h k =
    let f : n / 10 < 10 ^ 19 = omega arith in
    let v : 0 < value_of (figures 19 (n / 10)) = rw (figures-value 19 (n / 10) f) (omega arith) in
    let l : figures 20 n ≡ figures 19 (n / 10) ++ (48 + n % 10) ∷ [] = unfold figures in refl in
    ap trim l
    ∙ trim-more (figures 19 (n / 10)) (48 + n % 10) (figures-digits 19 (n / 10)) v
    ∙ ap (λ (s : List ℕ). s ++ (48 + n % 10) ∷ []) (sym (trim-wide 18 (n / 10) f))

-- the sign in front
pub unsigned-none : (s : List ℕ) → length s ≡ 0 → unsigned s ≡ s
unfolding unsigned
unsigned-none [] e = refl
unsigned-none (c ∷ s) e = absurd (omega arith)
