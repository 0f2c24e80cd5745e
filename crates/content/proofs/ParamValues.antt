-- One value of a parameter: without its quotes, by places; and names, which decoding leaves as they are.
use Prim.Native.Nat.{ℕ, suc, ◌+◌, ◌-◌, ◌≤◌}
use Prim.Native.Char.{code}
use mathlib.Core.Path.{◌≡◌, refl, sym, ap, ◌∙◌}
use mathlib.Core.Bool.{Bool, true, false}
use mathlib.Core.List.{List, [], ◌∷◌, ◌++◌, map}
use native.Mathlib.Omega.{arith}
use borrow.Author.Tests.{ne_eqb}
use lib.Dec.{eqb}
use lib.ListN.{length, get_or, take, drop}
use Rattle.octets.specs.Basics.{octets, pick, all, same, filled}
use Rattle.octets.specs.Classes.{between, is_digit, is_upper, is_lower, is_letter, name_octet, is_name, upper, upper_octet}
use Rattle.octets.proofs.Cases.{cases, never, same?, apart, both, and-true, and-false-right, or-first, or-second}
use Rattle.octets.proofs.Classes.{same-is}
use Rattle.octets.proofs.Positions.{from}
use Rattle.content.specs.Line.{front, unquote}
use Rattle.content.specs.Parts.{StandsIn}
use Rattle.content.specs.Carets.{decoded_octet, caret_after, decoded_from, decoded}
use Rattle.content.proofs.Standing.{stands-whole}

-- decoding leaves a name as it is, and makes no name of what is none
out-by : (a b d : Bool) (c : ℕ) (s : List ℕ)
    → all name_octet (pick a (octets "\n") (pick b (octets "^") (pick d (octets "\"") (code "^" ∷ c ∷ []))) ++ s) ≡ false
unfolding all name_octet is_letter is_upper is_lower is_digit between
out-by true b d c s = refl
out-by false true d c s = refl
out-by false false true c s = refl
out-by false false false c s = refl

caret-out : (s : List ℕ) → all name_octet (decoded_from true s) ≡ false
unfolding decoded_from decoded_octet
caret-out [] = unfold all name_octet is_letter is_upper is_lower is_digit between in refl
caret-out (c ∷ s) = out-by (eqb c (code "n")) (eqb c (code "^")) (eqb c (code "'")) c (decoded_from (caret_after true c) s)

no-caret : name_octet (code "^") ≡ false
unfolding name_octet is_letter is_upper is_lower is_digit between
no-caret = refl

names-decoded : (s : List ℕ) → all name_octet (decoded_from false s) ≡ all name_octet s
unfolding decoded_from decoded_octet caret_after all
names-decoded [] = refl
names-decoded (c ∷ s) = same? c (code "^")
    (λ e. rw (e, no-caret) (caret-out s))
    (λ n. rw (n, names-decoded s))

name-stays : (s : List ℕ) → all name_octet s ≡ true → decoded_from false s ≡ s
unfolding decoded_from decoded_octet caret_after all
name-stays [] h = refl
name-stays (c ∷ s) h =
    let b = both (name_octet c) (all name_octet s) h in
    rw (apart name_octet c (code "^") b.0 no-caret, name-stays s b.1)

-- a name, decoded, is that name
pub decoded-name : (s : List ℕ) → is_name s ≡ true → decoded s ≡ s
unfolding is_name decoded
decoded-name s h = name-stays s (both (filled s) (all name_octet s) h).1

-- and what is no name becomes none
pub name-decoded : (s : List ℕ) → is_name (decoded s) ≡ is_name s
unfolding is_name decoded
name-decoded s = cases (all name_octet s)
    (λ e. rw (name-stays s e))
    (λ e. rw (names-decoded s, e) (and-false-right (filled (decoded s)) ∙ sym (and-false-right (filled s))))

-- a word of name octets, in uppercase: it is the decoded text where it is the text
upper-back-octet : (c : ℕ) → name_octet (upper_octet c) ≡ true → name_octet c ≡ true
unfolding upper_octet
upper-back-octet c h = cases (is_lower c)
    (λ l. unfold name_octet is_letter in or-first _ (or-second (is_upper c) l))
    (λ l. rw l at h)

pub upper-back : (s : List ℕ) → all name_octet (upper s) ≡ true → all name_octet s ≡ true
unfolding all upper
upper-back [] h = refl
upper-back (c ∷ s) h =
    let b = both (name_octet (upper_octet c)) (all name_octet (map upper_octet s)) h in
    and-true (upper-back-octet c b.0) (upper-back s b.1)

not-word : (w s : List ℕ) → all name_octet w ≡ true → all name_octet s ≡ false → same (upper s) w ≡ false
not-word w s h n = cases (same (upper s) w)
    (λ e. never (upper-back s (rw (same-is (upper s) w e) h)) n)
    (λ e. e)

pub word-decoded : (w s : List ℕ) → all name_octet w ≡ true → same (upper (decoded s)) w ≡ same (upper s) w
unfolding decoded
word-decoded w s h = cases (all name_octet s)
    (λ e. rw (name-stays s e))
    (λ e. not-word w (decoded_from false s) h (names-decoded s ∙ e) ∙ sym (not-word w s h e))

-- all octets but the last
front-take : (s : List ℕ) → front s ≡ take (length s - 1) s
unfolding front
front-take [] = refl
front-take (c ∷ []) = refl
front-take (c ∷ d ∷ s) =
    let n : suc (suc (length s)) - 1 ≡ suc (length s) = omega arith in
    let m : suc (length s) - 1 ≡ length s = omega arith in
    rw n (ap (λ (l : List ℕ). c ∷ l) (rw m at (front-take (d ∷ s))))

-- a value without its quotes is a part of it
pub unquote-stands : (v : List ℕ) → StandsIn v (unquote v)
unfolding unquote
unquote-stands [] = stands-whole []
unquote-stands (c ∷ s) = by (eqb c (code "\""))
  where
    by : (b : Bool) → StandsIn (c ∷ s) (pick b (front s) (c ∷ s))
    by true = record {
      from = 1;
      end = 1 + (length s - 1);
      ordered = omega arith;
      within = omega arith;
      text = let e : 1 + (length s - 1) - 1 ≡ length s - 1 = omega arith in rw e (front-take s);
    }
    by false = stands-whole (c ∷ s)

-- a value without its quotes, by whether it begins with one
pub unquote-plain : (v : List ℕ) → (1 ≤ length v → get_or v 0 0 ≡ code "\"" → ⊥) → unquote v ≡ v
unfolding unquote
unquote-plain [] n = refl
unquote-plain (c ∷ v) n = rw (ne_eqb c (code "\"") (n (omega arith)))

pub unquote-quoted : (v : List ℕ) → 1 ≤ length v → get_or v 0 0 ≡ code "\"" → unquote v ≡ take (length (take (length v - 1) (drop 1 v)) - 1) (take (length v - 1) (drop 1 v))
unquote-quoted v h q = rw (from v 1) (by v h q)
  where
    by : (v : List ℕ) → 1 ≤ length v → get_or v 0 0 ≡ code "\"" → unquote v ≡ take (length (drop 1 v) - 1) (drop 1 v)
    by [] h q = absurd (omega arith)
    by (c ∷ v) h q = unfold unquote in rw q (front-take v)
