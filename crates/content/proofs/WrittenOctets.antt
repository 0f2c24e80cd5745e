-- What a written content line is put together of: printable octets, encoded values and the line's value. What holds of printable texts, and of
-- two texts one behind the other where it holds of both, passes from these to the line.
use Prim.Native.Nat.{ℕ}
use Prim.Native.Char.{code}
use mathlib.Core.Path.{◌≡◌, refl}
use mathlib.Core.Bool.{Bool, true, false}
use mathlib.Core.List.{List, [], ◌∷◌, ◌++◌, map}
use native.Mathlib.Omega.{arith}
use borrow.Author.Tests.{eqb-true}
use lib.Dec.{eqb}
use Rattle.octets.specs.Basics.{◌or◌, all, any, filled, All}
use Rattle.octets.specs.Pieces.{joined}
use Rattle.octets.specs.Classes.{between, is_digit, is_upper, is_lower, is_letter, name_octet, is_name, is_lower_name, upper}
use Rattle.octets.proofs.Cases.{both, either, all_weaker}
use Rattle.octets.proofs.Classes.{between-true, within-between}
use Rattle.content.specs.Carets.{encoded}
use Rattle.content.specs.Line.{Param}
use Rattle.content.specs.Write.{asks_quotes, quoted_if, param_value_text, param_text, params_text, line_text}
use Rattle.octets.proofs.Classes.{lower-name, name-upper}

abbrev pub printable : ℕ → Bool
printable c = between 32 126 c

name-octet : (c : ℕ) → name_octet c ≡ true → printable c ≡ true
unfolding name_octet is_letter is_upper is_lower is_digit
name-octet c h = either (is_letter c) (is_digit c or eqb c (code "-")) h
    (λ e. either (is_upper c) (is_lower c) e
    (λ d. let b = between-true (code "A") (code "Z") c d in within-between 32 126 c (omega arith) (omega arith))
    (λ d. let b = between-true (code "a") (code "z") c d in within-between 32 126 c (omega arith) (omega arith)))
    (λ e. either (is_digit c) (eqb c (code "-")) e
    (λ d. let b = between-true (code "0") (code "9") c d in within-between 32 126 c (omega arith) (omega arith))
    (λ d. rw (eqb-true c (code "-") d) (unfold between in refl)))

pub name-printable : (n : List ℕ) → is_name n ≡ true → all printable (upper n) ≡ true
unfolding is_name
name-printable n h = all_weaker name_octet printable name-octet (upper n) (both (filled (upper n)) (all name_octet (upper n)) (name-upper n h)).1

module _ (C : List ℕ → Type 0) (print : (s : List ℕ) → all printable s ≡ true → C s) (join : (s t : List ℕ) → C s → C t → C (s ++ t)) where
  octet-has : (c : ℕ) (t : List ℕ) → printable c ≡ true → C t → C (c ∷ t)
  octet-has c t e h = join (c ∷ []) t (print (c ∷ []) (unfold all in rw e)) h

  across-has : (s : List ℕ) (c : ℕ) (t : List ℕ) → printable c ≡ true → C s → C t → C (s ++ c ∷ t)
  across-has s c t e h k = join s (c ∷ t) h (octet-has c t e k)

  pub joined-has : (sep : ℕ) → printable sep ≡ true → (ls : List (List ℕ)) → All C ls → C (joined sep ls)
  unfolding joined
  joined-has sep e [] h = print [] (unfold all in refl)
  joined-has sep e (l ∷ []) h = h.0
  joined-has sep e (l ∷ m ∷ ls) h = across-has l sep (joined sep (m ∷ ls)) e h.0 (joined-has sep e (m ∷ ls) h.1)

  -- a parameter under a lowercase name, whose encoded values have it
  pub record Has (p : Param) : Type 0 where
    pub named : is_lower_name p.name ≡ true
    pub values : All (λ v. C (encoded v)) p.values

  quoted-has : (b : Bool) (v : List ℕ) → C v → C (quoted_if b v)
  unfolding quoted_if between
  quoted-has true v h = octet-has (code "\"") (v ++ code "\"" ∷ []) refl (across-has v (code "\"") [] refl h (print [] (unfold all in refl)))
  quoted-has false v h = h

  values-have : (vs : List (List ℕ)) → All (λ v. C (encoded v)) vs → All C (map param_value_text vs)
  unfolding param_value_text
  values-have [] h = tt
  values-have (v ∷ vs) h = (quoted-has (any asks_quotes v) (encoded v) h.0, values-have vs h.1)

  params-have : (ps : List Param) → All Has ps → C (params_text ps)
  unfolding params_text param_text between
  params-have [] h = print [] (unfold all in refl)
  params-have (p ∷ ps) h =
      let vs = joined (code ",") (map param_value_text p.values) in
      join (code ";" ∷ upper p.name ++ code "=" ∷ vs) (params_text ps)
      (octet-has (code ";") (upper p.name ++ code "=" ∷ vs) refl
      (across-has (upper p.name) (code "=") vs refl (print (upper p.name) (name-printable p.name (lower-name p.name h.0.named)))
      (joined-has (code ",") refl (map param_value_text p.values) (values-have p.values h.0.values))))
      (params-have ps h.1)

  -- THE LAW
  pub line-has : (n : List ℕ) (ps : List Param) (v : List ℕ) → is_name n ≡ true → All Has ps → C v → C (line_text n ps v)
  unfolding line_text between
  line-has n ps v h k c =
      join (upper n) (params_text ps ++ code ":" ∷ v) (print (upper n) (name-printable n h))
      (across-has (params_text ps) (code ":") v refl (params-have ps k) c)
