-- A parameter's text from its pieces, in the order in which they are written.
use Prim.Native.Nat.{ℕ}
use Prim.Native.Char.{code}
use mathlib.Core.Path.{◌≡◌, refl, sym, ap}
use mathlib.Core.Bool.{true, false}
use mathlib.Core.List.{List, [], ◌∷◌, ◌++◌, map, append-nil, append_assoc}
use lib.Dec.{eqb}
use Rattle.octets.specs.Basics.{octets, all, any, filled}
use Rattle.octets.specs.Pieces.{joined}
use Rattle.octets.specs.Classes.{between, is_digit, is_upper, is_lower, is_letter, name_octet, is_name, upper}
use Rattle.octets.proofs.Cases.{both, apart, or-false}
use Rattle.content.specs.Carets.{encoded_octet, encoded}
use Rattle.content.specs.Write.{asks_quotes, quoted_if, param_value_text, more_values, param_text}

-- the values
pub joined-values : (v : List ℕ) (vs : List (List ℕ)) → joined (code ",") (map param_value_text (v ∷ vs)) ≡ param_value_text v ++ more_values vs
unfolding joined more_values
joined-values v [] = sym (append-nil (param_value_text v))
joined-values v (w ∷ vs) = ap (λ l. param_value_text v ++ code "," ∷ l) (joined-values w vs)

-- ;NAME= and the values
pub param-text : (n v : List ℕ) (vs : List (List ℕ)) → param_text (record { name = n; values = v ∷ vs }) ≡ (octets ";" ++ upper n ++ octets "=") ++ (param_value_text v ++ more_values vs)
unfolding param_text
param-text n v vs = rw (joined-values v vs) (sym (append_assoc (code ";" ∷ upper n) (octets "=") (param_value_text v ++ more_values vs)))

-- a name is written as it is
name-octet : (c : ℕ) → name_octet c ≡ true → (encoded_octet c ≡ c ∷ []) × (asks_quotes c ≡ false)
unfolding encoded_octet asks_quotes name_octet is_letter is_upper is_lower is_digit between
name-octet c h = (
  rw (away (code "^") refl, away (code "\"") refl, away (code "\n") refl),
  or-false (away (code ":") refl) (or-false (away (code ";") refl) (away (code ",") refl)),
)
  where
    away : (k : ℕ) → name_octet k ≡ false → eqb c k ≡ false
    away k n = apart name_octet c k h n

name-octets : (n : List ℕ) → all name_octet n ≡ true → (encoded n ≡ n) × (any asks_quotes n ≡ false)
unfolding all encoded any
name-octets [] h = (refl, refl)
name-octets (c ∷ n) h =
    let b = both (name_octet c) (all name_octet n) h in
    let o = name-octet c b.0 in
    let r = name-octets n b.1 in
    (rw (o.0, r.0), or-false o.1 r.1)

pub name-text : (n : List ℕ) → is_name n ≡ true → param_value_text n ≡ n
unfolding param_value_text quoted_if is_name
name-text n h = let r = name-octets n (both (filled n) (all name_octet n) h).1 in rw r.1 r.0
