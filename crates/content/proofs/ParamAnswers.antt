-- What VALUE and ENCODING say, by places.
use Prim.Native.Nat.{ℕ, ◌+◌, ◌≤◌, ◌<◌}
use Prim.Native.Char.{code}
use mathlib.Core.Path.{◌≡◌, refl, sym, ap, ◌∙◌}
use mathlib.Core.Bool.{true, false, not}
use mathlib.Core.List.{List, [], ◌∷◌, map}
use mathlib.Core.Option.{none, some}
use borrow.Author.Tests.{eqb-true, leb-true, leb-false}
use lib.Dec.{eqb, leb}
use lib.ListN.{length, get_or, drop}
use lib.Seq.{take_all}
use Rattle.octets.specs.Basics.{octets, pick, all, any, same, filled, single}
use Rattle.octets.specs.Pieces.{cut}
use Rattle.octets.specs.Classes.{between, is_digit, is_upper, is_lower, is_letter, name_octet, is_name, lower_octet, upper_octet, upper, lower, same_name}
use Rattle.octets.specs.Answers.{refused, accepted}
use Rattle.octets.proofs.Cases.{cases, never}
use Rattle.octets.proofs.Positions.{here, ended, upto}
use Rattle.content.specs.Line.{quote_after, bare, before, pieces, unquote, param_value}
use Rattle.content.specs.Carets.{decoded}
use Rattle.content.specs.Scan.{until_bare}
use Rattle.content.specs.Parts.{other_pieces, params_in, param_cut}
use Rattle.content.specs.Parameters.{called, token, value_type, is_base64, encodes, is_encoded}
use Rattle.content.proofs.Names.{same-lower}
use Rattle.content.proofs.Scanning.{bare-rest, bare-stop}
use Rattle.content.proofs.Separators.{one_of, twice-one, before-is, sep-before, pieces-first}
use Rattle.content.proofs.ParamValues.{decoded-name, name-decoded, word-decoded}

-- the values of a parameter are one where no comma separates them
module _ (t : List ℕ) (c : ℕ) (q : c ≡ 0 + length (until_bare (one_of (code ",") (code ",")) false (drop 0 t))) where
  pieces-at : pieces (code ",") false t ≡ before (code ",") false t ∷ other_pieces (pieces (code ",") false (drop c t))
  pieces-at = pieces-first (code ",") false t ∙ rw (← before-is (code ",") false t, bare-rest (one_of (code ",") (code ",")) t 0 c q)

  pub single-one : length t ≤ c → single (pieces (code ",") false t) ≡ true
  unfolding single filled pieces other_pieces
  single-one h = rw (pieces-at, ended t c h)

  comma : c < length t → get_or t c 0 ≡ code ","
  comma h = eqb-true (get_or t c 0) (code ",") (rw (twice-one (eqb (get_or t c 0) (code ","))) at (bare-stop (one_of (code ",") (code ",")) t 0 c q h))

  pub single-not : c < length t → single (pieces (code ",") false t) ≡ false
  single-not h = rw (pieces-at, here t c h, comma h) (unfold pieces bare cut other_pieces in more (drop (c + 1) t))
    where
      more : (r : List ℕ) → single (before (code ",") false t ∷ pieces (code ",") (quote_after false (code ",")) r) ≡ false
      more r = rw (pieces-first (code ",") (quote_after false (code ",")) r) (unfold single filled in refl)

  pub single-told : single (pieces (code ",") false t) ≡ leb (length t) c
  single-told = cases (leb (length t) c)
      (λ e. single-one (leb-true (length t) c e) ∙ sym e)
      (λ e. single-not (leb-false (length t) c e) ∙ sym e)

  one_at : single (pieces (code ",") false t) ≡ true → pieces (code ",") false t ≡ t ∷ []
  unfolding pieces other_pieces
  one_at h =
      let l : length t ≤ c = leb-true (length t) c (sym single-told ∙ h) in
      let w : before (code ",") false t ≡ t = sep-before (code ",") t 0 c q ∙ upto t c ∙ take_all c t l in
      pieces-at ∙ rw (ended t c l, w)

pub one_value : (t : List ℕ) → single (pieces (code ",") false t) ≡ true → pieces (code ",") false t ≡ t ∷ []
one_value t h = one_at t (0 + length (until_bare (one_of (code ",") (code ",")) false (drop 0 t))) refl h

-- several values
token-by : (vs : List (List ℕ)) → single vs ≡ false → token vs ≡ refused 7
unfolding token single filled
token-by [] h = refl
token-by (v ∷ []) h = never refl h
token-by (v ∷ w ∷ vs) h = refl

single-map : (vs : List (List ℕ)) → single (map param_value vs) ≡ single vs
unfolding single filled
single-map [] = refl
single-map (v ∷ []) = refl
single-map (v ∷ w ∷ vs) = refl

base64-by : (vs : List (List ℕ)) → single vs ≡ false → is_base64 vs ≡ false
unfolding is_base64 single filled
base64-by [] h = refl
base64-by (v ∷ []) h = never refl h
base64-by (v ∷ w ∷ vs) h = refl

-- a word in the case of its definition
called_is : (w x : List ℕ) → lower w ≡ w → same_name x w ≡ same (lower x) w
called_is w x e = same-lower x w ∙ rw e

-- the values of a parameter, and the one without its quotes
module _ (t : List ℕ) where
  pub token-several : single (pieces (code ",") false t) ≡ false → refused 7 ≡ token (map param_value (pieces (code ",") false t))
  token-several h = sym (token-by _ (single-map _ ∙ h))

  pub base64-several : single (pieces (code ",") false t) ≡ false → false ≡ is_base64 (map param_value (pieces (code ",") false t))
  base64-several h = sym (base64-by _ (single-map _ ∙ h))

  module _ (h : single (pieces (code ",") false t) ≡ true) (u : List ℕ) (k : u ≡ unquote t) where
    value : map param_value (pieces (code ",") false t) ≡ decoded u ∷ []
    unfolding param_value
    value = rw (one_value t h, k)

    pub token-no-name : is_name u ≡ false → refused 7 ≡ token (map param_value (pieces (code ",") false t))
    unfolding token
    token-no-name n = rw (value, name-decoded u, n)

    module _ (n : is_name u ≡ true) where
      token-is : token (map param_value (pieces (code ",") false t)) ≡ pick (not (same_name u (octets "unknown"))) (accepted (some (lower u))) (refused 7)
      unfolding token
      token-is = rw (value, decoded-name u n, n, called_is (octets "unknown") u (unfold lower lower_octet is_upper between in refl))

      pub token-unknown : same_name u (octets "unknown") ≡ true → refused 7 ≡ token (map param_value (pieces (code ",") false t))
      token-unknown e = sym (token-is ∙ rw e)

      pub token-named : same_name u (octets "unknown") ≡ false → accepted (some (lower u)) ≡ token (map param_value (pieces (code ",") false t))
      token-named e = sym (token-is ∙ rw e)

    pub base64-one : same_name u (octets "BASE64") ≡ is_base64 (map param_value (pieces (code ",") false t))
    unfolding is_base64 same_name
    base64-one = rw (value, word-decoded (octets "BASE64") u all-names, upper-base64)
      where
        all-names : all name_octet (octets "BASE64") ≡ true
        all-names = unfold all name_octet is_letter is_upper is_lower is_digit between in refl

        upper-base64 : upper (octets "BASE64") ≡ octets "BASE64"
        upper-base64 = unfold upper upper_octet is_lower between in refl

-- the name of a parameter
module _ (n v : List ℕ) where
  named : (w : List ℕ) → lower w ≡ w → called w (param_cut n v) ≡ same_name n w
  unfolding called param_cut
  named w l = sym (called_is w n l)

  pub is-value : called (octets "value") (param_cut n v) ≡ same_name n (octets "value")
  is-value = named (octets "value") (unfold lower lower_octet is_upper between in refl)

  pub is-encoding : called (octets "encoding") (param_cut n v) ≡ same_name n (octets "encoding")
  is-encoding = named (octets "encoding") (unfold lower lower_octet is_upper between in refl)

-- the walk for VALUE
pub type-none : (s : List ℕ) → params_in s ≡ [] → accepted none ≡ value_type (params_in s)
unfolding value_type
type-none s k = rw k

module _ (s n v r : List ℕ) (k : params_in s ≡ param_cut n v ∷ params_in r) where
  pub type-here : same_name n (octets "value") ≡ true → value_type (params_in s) ≡ token (map param_value (pieces (code ",") false v))
  unfolding value_type param_cut
  type-here t = ap value_type k ∙ rw (is-value n v ∙ t)

  pub type-on : same_name n (octets "value") ≡ false → value_type (params_in s) ≡ value_type (params_in r)
  unfolding value_type
  type-on t = ap value_type k ∙ rw (is-value n v ∙ t)

-- the walk for ENCODING
pub encoded-none : (s : List ℕ) → params_in s ≡ [] → is_encoded (params_in s) ≡ false
unfolding is_encoded any
encoded-none s k = rw k

module _ (s n v r : List ℕ) (k : params_in s ≡ param_cut n v ∷ params_in r) where
  pub encoded-on : same_name n (octets "encoding") ≡ false → is_encoded (params_in s) ≡ is_encoded (params_in r)
  unfolding is_encoded any encodes
  encoded-on t = ap is_encoded k ∙ rw (is-encoding n v ∙ t)

  module _ (t : same_name n (octets "encoding") ≡ true) where
    pub encoded-here : is_base64 (map param_value (pieces (code ",") false v)) ≡ true → is_encoded (params_in s) ≡ true
    unfolding is_encoded any encodes param_cut
    encoded-here b = ap is_encoded k ∙ rw (is-encoding n v ∙ t, b)

    pub encoded-not : is_base64 (map param_value (pieces (code ",") false v)) ≡ false → is_encoded (params_in s) ≡ is_encoded (params_in r)
    unfolding is_encoded any encodes param_cut
    encoded-not b = ap is_encoded k ∙ rw (is-encoding n v ∙ t, b)
