-- Reading a duration letter by letter, which is its definition, and the loop that does so.
use Prim.Native.Nat.{ℕ, ◌+◌, ◌-◌, ◌≤◌, ◌<◌}
use Prim.Native.Char.{code}
use mathlib.Core.Path.{◌≡◌, refl, sym, ◌∙◌}
use mathlib.Core.Bool.{Bool, true, false, not}
use mathlib.Core.List.{List, [], ◌∷◌}
use lib.Dec.{eqb}
use native.Mathlib.Omega.{arith}
use lib.ListN.{length, get_or, take, drop, length-drop}
use lib.Seq.{take_all}
use Rattle.octets.specs.Basics.{octets, pick, ◌and◌, all, any, same, among}
use Rattle.octets.specs.Classes.{between, is_digit, upper_octet, upper}
use Rattle.octets.specs.Decimal.{unsigned}
use Rattle.octets.proofs.Cases.{cases, same?, never, both, and-true, and-swap}
use Rattle.octets.proofs.Decimal.{digit-no-sign}
use Rattle.octets.proofs.Positions.{here, ended}
use Rattle.calendar.specs.Durations.{spans, letters, is_unit, unit_placed, placed, duration_is}
use Rattle.calendar.specs.Letters.{letter_follows, may_come, letter_with, duration_rest}
use Rattle.calendar.proofs.ItemTests.{unsigned-upper}

-- the letters that may stand behind a letter
ends : List (List ℕ)
ends = [] ∷ []

behind_t : List (List ℕ)
behind_t = octets "H" ∷ octets "HM" ∷ octets "HMS" ∷ octets "M" ∷ octets "MS" ∷ octets "S" ∷ []

behind_d : List (List ℕ)
behind_d = [] ∷ octets "TH" ∷ octets "THM" ∷ octets "THMS" ∷ octets "TM" ∷ octets "TMS" ∷ octets "TS" ∷ []

behind_p : List (List ℕ)
behind_p =
    octets "W" ∷ octets "D" ∷ octets "TH" ∷ octets "THM" ∷ octets "THMS" ∷ octets "TM" ∷ octets "TMS" ∷ octets "TS" ∷ octets "DTH" ∷ octets "DTHM" ∷ octets "DTHMS" ∷ octets "DTM" ∷ octets "DTMS" ∷ octets "DTS" ∷ []

behind_letter : ℕ → List (List ℕ)
behind_letter b =
    pick (eqb b 0) spans
    (pick (eqb b (code "P")) behind_p
    (pick (eqb b (code "D")) behind_d
    (pick (eqb b (code "T")) behind_t
    (pick (eqb b (code "H")) ([] ∷ octets "M" ∷ octets "MS" ∷ [])
    (pick (eqb b (code "M")) ([] ∷ octets "S" ∷ [])
    (pick (eqb b (code "S")) ends
    (pick (eqb b (code "W")) ends [])))))))

-- a law about a letter holds if it does for each letter of a duration, and for any other
by-letter : (P : ℕ → Type 0) → P 0 → P (code "P") → P (code "D") → P (code "T") → P (code "H") → P (code "M") → P (code "S") → P (code "W")
    → ((b : ℕ) → eqb b 0 ≡ false → eqb b (code "P") ≡ false → eqb b (code "D") ≡ false → eqb b (code "T") ≡ false → eqb b (code "H") ≡ false → eqb b (code "M") ≡ false
    → eqb b (code "S") ≡ false → eqb b (code "W") ≡ false → P b) → (b : ℕ) → P b
by-letter P z p d t h m s w o b =
    same? b 0 (λ e. rw e z) λ n0. same? b (code "P") (λ e. rw e p) λ np. same? b (code "D") (λ e. rw e d) λ nd. same? b (code "T") (λ e. rw e t) λ nt.
    same? b (code "H") (λ e. rw e h) λ nh. same? b (code "M") (λ e. rw e m) λ nm. same? b (code "S") (λ e. rw e s) λ ns. same? b (code "W") (λ e. rw e w) λ nw.
    o b n0 np nd nt nh nm ns nw

-- a letter with others behind it is one of the rests of b
Steps : ℕ → Type 0
Steps b = (c : ℕ) (l : List ℕ) → among (c ∷ l) (behind_letter b) ≡ (letter_follows b c and among l (behind_letter c))

steps : (b : ℕ) → Steps b
unfolding Steps behind_letter behind_p behind_d behind_t ends spans letter_follows among any same
steps =
    by-letter Steps
    (λ c l. same? c (code "P") (λ e. rw e) (λ e. rw e))
    (λ c l. same? c (code "D") (λ e. rw e) λ d. same? c (code "T") (λ e. rw e) λ t. same? c (code "W") (λ e. rw e) λ w. rw (d, t, w))
    (λ c l. same? c (code "T") (λ e. rw e) (λ e. rw e))
    (λ c l. same? c (code "H") (λ e. rw e) λ h. same? c (code "M") (λ e. rw e) λ m. same? c (code "S") (λ e. rw e) λ s. rw (h, m, s))
    (λ c l. same? c (code "M") (λ e. rw e) (λ e. rw e))
    (λ c l. same? c (code "S") (λ e. rw e) (λ e. rw e))
    (λ c l. refl)
    (λ c l. refl)
    (λ b z p d t h m s w c l. rw (z, p, d, t, h, m, s, w))

-- and no letter is, behind a unit alone
no-letter : (b : ℕ) → among [] (behind_letter b) ≡ is_unit b
unfolding behind_letter behind_p behind_d behind_t ends spans is_unit among any same
no-letter =
    by-letter (λ b. among [] (behind_letter b) ≡ is_unit b) refl refl refl refl refl refl refl refl
    (λ b z p d t h m s w. rw (z, p, d, t, h, m, s, w))

by-letters : (b p : ℕ) (s : List ℕ) → (among (letters s) (behind_letter b) and placed p s) ≡ duration_rest b p s
unfolding letters placed duration_rest may_come letter_with Steps
by-letters b p [] = rw (no-letter b)
by-letters b p (c ∷ s) =
    cases (is_digit c)
    (λ e. rw e (by-letters b c s))
    (λ e. rw (e, steps b c (letters s), and-swap (letter_follows b c) (among (letters s) (behind_letter c)), by-letters c c s))

pub read-by-letters : (s : List ℕ) → duration_is s ≡ duration_rest 0 0 (unsigned s)
unfolding duration_is
read-by-letters s = unfold behind_letter in by-letters 0 0 (unsigned s)

-- a digit before the first letter is none of a duration's
digit-first : (p : ℕ) → is_digit p ≡ true → (s : List ℕ) → duration_rest 0 p s ≡ false
unfolding duration_rest may_come letter_with letter_follows is_unit unit_placed
digit-first p h [] = refl
digit-first p h (c ∷ s) =
    cases (is_digit c)
    (λ e. rw e (digit-first c e s))
    (λ e. same? c (code "P") (λ q. rw (q, h) (unfold is_digit between in refl)) (λ n. rw (e, n)))

pub begins-no-digit : (s : List ℕ) → duration_is s ≡ true → is_digit (get_or s 0 0) ≡ false
begins-no-digit [] h = unfold is_digit between in refl
begins-no-digit (c ∷ s) h =
    cases (is_digit c)
    (λ e. never (sym (read-by-letters (c ∷ s)) ∙ h) (unfold unsigned duration_rest may_come letter_with in rw (digit-no-sign c e, e) (digit-first c e s)))
    (λ e. e)

-- what holds of each digit and of each letter holds of each octet
pub letters-all : (p : ℕ → Bool) → ((c : ℕ) → is_digit c ≡ true → p c ≡ true) → (s : List ℕ) → all p (letters s) ≡ true → all p s ≡ true
unfolding letters all
letters-all p d [] h = refl
letters-all p d (c ∷ s) h =
    cases (is_digit c)
    (λ e. and-true (d c e) (letters-all p d s (rw e at h)))
    (λ e. let b = both (p c) (all p (letters s)) (rw e at h) in and-true b.0 (letters-all p d s b.1))

-- The loop that reads a duration: of its octets t behind the sign i are read, b is the last letter of them and p the last octet.
abbrev pub Spelled : List ℕ → List ℕ → ℕ → ℕ → ℕ → Type 0
Spelled s t b p i = duration_rest b p (upper (drop i t)) ≡ duration_is (upper s)

module _ (s t : List ℕ) where
  pub sets-out : (r : ℕ) → unsigned s ≡ drop r s → t ≡ take (length s - r) (drop r s) → Spelled s t 0 0 0
  sets-out r e q = sym (read-by-letters (upper s) ∙ rw (unsigned-upper s, e, q, take_all (length s - r) (drop r s) (rw length-drop (omega arith))))

  module _ (b p i c : ℕ) (f : Spelled s t b p i) where
    pub goes_on : i < length t → c ≡ upper_octet (get_or t i 0) → may_come b p c ≡ true → Spelled s t (letter_with b c) c (i + 1)
    unfolding upper duration_rest
    goes_on h e m = rw (here t i h, ← e, m) at f

    pub breaks : i < length t → c ≡ upper_octet (get_or t i 0) → may_come b p c ≡ false → false ≡ duration_is (upper s)
    unfolding upper duration_rest
    breaks h e m = rw (here t i h, ← e, m) at f

  pub arrives : (b p i : ℕ) → Spelled s t b p i → length t ≤ i → (is_unit b and not (is_digit p)) ≡ duration_is (upper s)
  unfolding upper duration_rest
  arrives b p i f h = rw (ended t i h) at f
