-- Floats and integers.
use Prim.Native.Nat.{ℕ, ◌+◌, ◌-◌, ◌≤◌, ◌<◌, min}
use Prim.Native.Char.{code}
use mathlib.Core.Path.{◌≡◌, refl, sym, ap, ◌∙◌}
use mathlib.Core.Bool.{Bool, true, false}
use mathlib.Core.List.{List, [], ◌∷◌}
use native.Mathlib.Omega.{arith}
use borrow.Author.Tests.{le-leb, leb-true, leb-false, ne_eqb}
use lib.Dec.{leb}
use lib.ListN.{length, get_or, take, drop}
use Rattle.octets.specs.Basics.{◌and◌}
use Rattle.octets.specs.Pieces.{split, joined}
use Rattle.octets.specs.Optional.{is_some}
use Rattle.octets.specs.Classes.{between, is_digit}
use Rattle.octets.specs.Decimal.{digits, value_of, minus, unsigned, trim, minus_if}
use Rattle.octets.specs.Limits.{most_integer}
use Rattle.octets.proofs.Cases.{cases, alike, apart, All-weaker, all-All}
use Rattle.octets.proofs.Decimal.{digits-all}
use Rattle.octets.proofs.Pieces.{split-filled, joined-split, split-last as split-alone}
use Rattle.octets.proofs.Positions.{from, upto}
use Rattle.octets.proofs.Optional.{some-when}
use Rattle.calendar.specs.Walk.{before_first}
use Rattle.calendar.proofs.Pieces.{before-take, split-more, split-last}
use Rattle.values.specs.Simple.{pointed, float_of, in_range, integer_of}
use Rattle.values.specs.Shown.{float_shown}

-- what follows a point
no-point : (v : List ℕ) → digits v ≡ true → split (code ".") v ≡ v ∷ []
no-point v h = split-alone (code ".") v (All-weaker (λ c d. apart is_digit c (code ".") d (unfold is_digit between in refl)) v (all-All is_digit v (digits-all v h)))

fraction-by : (w v : List ℕ) (ls : List (List ℕ)) → joined (code ".") ls ≡ v → (ls ≡ [] → ⊥) → digits v ≡ false → pointed (w ∷ ls) ≡ false
unfolding joined pointed
fraction-by w v [] e n h = absurd (n refl)
fraction-by w v (x ∷ []) e n h = rw (e, h) (never_both (digits w))
  where
    never_both : (b : Bool) → (b and false) ≡ false
    never_both true = refl
    never_both false = refl
fraction-by w v (x ∷ y ∷ ls) e n h = refl

fraction : (w v : List ℕ) → digits w ≡ true → pointed (w ∷ split (code ".") v) ≡ digits v
fraction w v h = cases (digits v)
    (λ d. rw (no-point v d, d) (unfold pointed in rw (h, d)))
    (λ d. rw d (fraction-by w v (split (code ".") v) (joined-split (code ".") v) (split-filled (code ".") v) d))

-- digits, and a point with digits or none; `rest` is what follows the sign, and its first point stands at e
module _ (s rest : List ℕ) (e : ℕ) (r : rest ≡ unsigned s) (is : e ≡ length (before_first (code ".") rest)) where
  float_is : is_some (float_of s) ≡ pointed (split (code ".") rest)
  unfolding float_of
  float_is = some-when _ _ ∙ ap (λ (u : List ℕ). pointed (split (code ".") u)) (sym r)

  first : before_first (code ".") rest ≡ take (e - 0) (drop 0 rest)
  first = before-take (code ".") rest ∙ ap (λ (n : ℕ). take n rest) (sym is) ∙ sym (upto rest e)

  more : e < length rest → split (code ".") rest ≡ take (e - 0) (drop 0 rest) ∷ split (code ".") (drop (e + 1) rest)
  more h = split-more (code ".") rest (rw (← is) h) ∙ ap (λ (n : ℕ). before_first (code ".") rest ∷ split (code ".") (drop (n + 1) rest)) (sym is) ∙ ap (λ (l : List ℕ). l ∷ split (code ".") (drop (e + 1) rest)) first

  last : length rest ≤ e → split (code ".") rest ≡ take (e - 0) (drop 0 rest) ∷ []
  last h = split-last (code ".") rest (rw (← is) h) ∙ ap (λ (l : List ℕ). l ∷ []) first

  wrong-by : (ls : List (List ℕ)) → digits (take (e - 0) (drop 0 rest)) ≡ false → pointed (take (e - 0) (drop 0 rest) ∷ ls) ≡ false
  unfolding pointed
  wrong-by [] h = h
  wrong-by (f ∷ []) h = rw h
  wrong-by (f ∷ g ∷ ls) h = refl

  pub float-wrong : digits (take (e - 0) (drop 0 rest)) ≡ false → is_some (float_of s) ≡ false
  float-wrong h = float_is ∙ cases (leb (length rest) e)
      (λ t. rw (last (leb-true (length rest) e t)) (wrong-by [] h))
      (λ t. rw (more (leb-false (length rest) e t)) (wrong-by (split (code ".") (drop (e + 1) rest)) h))

  pub float-whole : digits (take (e - 0) (drop 0 rest)) ≡ true → length rest ≤ e → is_some (float_of s) ≡ true
  float-whole h l = float_is ∙ rw (last l) (unfold pointed in h)

  pub float-point : digits (take (e - 0) (drop 0 rest)) ≡ true → e < length rest → is_some (float_of s) ≡ digits (take (length rest - (e + 1)) (drop (e + 1) rest))
  float-point h l = float_is ∙ rw (more l, from rest (e + 1)) (fraction (take (e - 0) (drop 0 rest)) (drop (e + 1) rest) h)

-- a float as it is written: the sign has r octets, and z zeros follow it
module _ (s : List ℕ) (r z : ℕ) (u : unsigned s ≡ drop r s) (t : trim (take (length s - r) (drop r s)) ≡ drop z (take (length s - r) (drop r s))) where
  trimmed : drop z (take (length s - r) (drop r s)) ≡ trim (unsigned s)
  trimmed = sym t ∙ ap trim (from s r ∙ sym u)

  pub shown-minus : get_or s 0 0 ≡ code "-" → code "-" ∷ take (length (take (length s - r) (drop r s)) - z) (drop z (take (length s - r) (drop r s))) ≡ float_shown s
  unfolding float_shown minus minus_if
  shown-minus m = rw (from (take (length s - r) (drop r s)) z, trimmed, m)

  pub shown-plus : (get_or s 0 0 ≡ code "-" → ⊥) → take (length (take (length s - r) (drop r s)) - z) (drop z (take (length s - r) (drop r s))) ≡ float_shown s
  unfolding float_shown minus minus_if
  shown-plus m = rw (from (take (length s - r) (drop r s)) z, trimmed, ne_eqb (get_or s 0 0) (code "-") m)

-- the largest value by the sign
pub most-minus : (s : List ℕ) → get_or s 0 0 ≡ code "-" → (n : ℕ) → in_range (minus s) n ≡ leb n (2147483647 + 1)
unfolding minus in_range most_integer
most-minus s m n = rw m

pub most-plus : (s : List ℕ) → (get_or s 0 0 ≡ code "-" → ⊥) → (n : ℕ) → in_range (minus s) n ≡ leb n 2147483647
unfolding minus in_range most_integer
most-plus s m n = rw (ne_eqb (get_or s 0 0) (code "-") m)

capped_le : (v m : ℕ) → leb (min v (m + 1)) m ≡ leb v m
capped_le v m = alike (leb (min v (m + 1)) m) (leb v m)
    (λ e. le-leb v m (omega (arith, leb-true (min v (m + 1)) m e)))
    (λ e. le-leb (min v (m + 1)) m (omega (arith, leb-true v m e)))

module _ (s figures : List ℕ) (u : figures ≡ unsigned s) where
  pub integer-wrong : digits figures ≡ false → is_some (integer_of s) ≡ false
  unfolding integer_of
  integer-wrong h = some-when _ _ ∙ rw (← u, h)

  pub integer-some : (v m : ℕ) → digits figures ≡ true → v ≡ min (value_of figures) (m + 1) → ((n : ℕ) → in_range (minus s) n ≡ leb n m) → leb v m ≡ is_some (integer_of s)
  unfolding integer_of
  integer-some v m h e f = rw (e, capped_le (value_of figures) m) (sym (some-when _ _ ∙ rw (← u, h, f (value_of figures))))
