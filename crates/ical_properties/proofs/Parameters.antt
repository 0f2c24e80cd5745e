-- Parameters and their values along the tape: tested for 7 and 8, and written.
use Prim.Native.Nat.{ℕ, ◌-◌}
use Prim.Native.Char.{code}
use mathlib.Core.Path.{◌≡◌, refl, sym, ◌∙◌}
use mathlib.Core.Bool.{true, false}
use mathlib.Core.List.{List, [], ◌∷◌, ◌++◌, map, append_assoc}
use lib.ListN.{take, drop}
use Rattle.octets.specs.Basics.{octets, ◌and◌, all, any, same}
use Rattle.octets.specs.Classes.{between, is_lower, upper_octet, text_octet, upper, same_name}
use Rattle.octets.specs.Optional.{given}
use Rattle.octets.specs.Pieces.{joined}
use Rattle.octets.proofs.Cases.{and-true-right}
use Rattle.json_text.specs.Tree.{octets_of}
use Rattle.json_text.specs.Tape.{tag_string, tag_end}
use Rattle.tape.specs.Decode.{other_items, paired, tag_at, value_at, items_at, list_at, members_at}
use Rattle.tape.specs.Promise.{Next, TextAt}
use Rattle.tape.specs.declared.Text.{Text}
use Rattle.tape.proofs.Values.{string-some, no-string, list-end, list-first, list-next, members-end, members-first, members-next}
use Rattle.content.specs.Line.{Param}
use Rattle.content.specs.Parameters.{called, is_base64, encodes, is_encoded, may_return}
use Rattle.content.specs.Write.{param_value_text, more_values, param_text, params_text}
use Rattle.content.proofs.ParamText.{joined-values}
use Rattle.conversion_theory.specs.Skeleton.{values_from, params_from}
use Rattle.ical_properties.specs.PartPlaces.{IntoArray}
use Rattle.ical_properties.specs.ParamValues.{param_values_text}

-- the octets that were read at a place
abbrev pub said : List ℕ → Text → List ℕ
said t x = take (x.to - x.from) (drop x.from t)

abbrev pub param : List ℕ → List (List ℕ) → Param
param n vs = record { name = n; values = vs }

-- the values of the parameter at i
module _ (t : List ℕ) (i : ℕ) where
  pub value-one : {x : Text} → tag_at t i ≡ tag_string → TextAt t i x → values_from (value_at t i) ≡ said t x ∷ []
  unfolding values_from given
  value-one e x = rw (string-some t i e, x.part)

  pub values-of : {a : ℕ} → ((tag_at t i ≡ tag_string) → ⊥) → IntoArray t i a → values_from (value_at t i) ≡ map octets_of (list_at t a)
  unfolding values_from given
  values-of n x = rw (no-string t i n, x.list)

  pub texts-end : tag_at t i ≡ tag_end → map octets_of (list_at t i) ≡ []
  texts-end e = rw (list-end t i e)

  pub texts-next : {x : Text} → ((tag_at t i ≡ tag_end) → ⊥) → TextAt t i x → map octets_of (list_at t i) ≡ said t x ∷ map octets_of (list_at t x.next)
  texts-next n x = rw (list-next x.behind n, x.part)

-- the parameters from i on
module _ (t : List ℕ) (i : ℕ) where
  pub params-end : tag_at t i ≡ tag_end → params_from (members_at t i) ≡ []
  unfolding params_from
  params-end e = rw (members-end t i e)

  module _ {k : Text} (n : (tag_at t i ≡ tag_end) → ⊥) (x : TextAt t i k) where
    pub params-first : params_from (members_at t i) ≡ param (said t k) (values_from (value_at t k.next)) ∷ params_from (paired (other_items (items_at t k.next)))
    unfolding params_from
    params-first = rw (members-first n x.behind, x.part)

    pub params-next : {e : ℕ} → Next t k.next e → params_from (members_at t i) ≡ param (said t k) (values_from (value_at t k.next)) ∷ params_from (members_at t e)
    unfolding params_from
    params-next y = rw (members-next n x.behind y, x.part)

-- 7
module _ (v : List ℕ) (vs : List (List ℕ)) where
  pub texts-on : all text_octet v ≡ true → all (all text_octet) (v ∷ vs) ≡ all (all text_octet) vs
  unfolding all
  texts-on h = rw h

  pub texts-off : all text_octet v ≡ false → all (all text_octet) (v ∷ vs) ≡ false
  unfolding all
  texts-off h = rw h

pub texts-none : all (all text_octet) [] ≡ true
unfolding all
texts-none = refl

pub texts-one : (v : List ℕ) → all (all text_octet) (v ∷ []) ≡ all text_octet v
unfolding all
texts-one v = and-true-right (all text_octet v)

pub return-none : all may_return [] ≡ true
unfolding all
return-none = refl

module _ (n : List ℕ) (vs : List (List ℕ)) (ps : List Param) where
  pub return-value : same n (octets "value") ≡ true → all may_return (param n vs ∷ ps) ≡ false
  unfolding all may_return called
  return-value h = rw h

  module _ (h : same n (octets "value") ≡ false) where
    pub return-off : all (all text_octet) vs ≡ false → all may_return (param n vs ∷ ps) ≡ false
    unfolding all may_return called
    return-off k = rw (h, k)

    pub return-on : all (all text_octet) vs ≡ true → all may_return (param n vs ∷ ps) ≡ all may_return ps
    unfolding all may_return called
    return-on k = rw (h, k)

-- 8
pub base64-one : (v : List ℕ) → is_base64 (v ∷ []) ≡ same_name v (octets "BASE64")
unfolding is_base64 same_name upper upper_octet is_lower between
base64-one v = refl

pub base64-none : is_base64 [] ≡ false
unfolding is_base64
base64-none = refl

pub base64-more : (v w : List ℕ) (vs : List (List ℕ)) → is_base64 (v ∷ w ∷ vs) ≡ false
unfolding is_base64
base64-more v w vs = refl

module _ {t : List ℕ} {i : ℕ} {x : Text} (n : (tag_at t i ≡ tag_end) → ⊥) (y : TextAt t i x) where
  pub base64-alone : tag_at t x.next ≡ tag_end → is_base64 (map octets_of (list_at t i)) ≡ same_name (said t x) (octets "BASE64")
  base64-alone e = rw (texts-next t i n y, texts-end t x.next e) (base64-one (said t x))

  pub base64-several : ((tag_at t x.next ≡ tag_end) → ⊥) → is_base64 (map octets_of (list_at t i)) ≡ false
  base64-several m = rw (texts-next t i n y, list-first t x.next m) (base64-more _ _ _)

pub encoded-none : is_encoded [] ≡ false
unfolding is_encoded any
encoded-none = refl

module _ (n : List ℕ) (vs : List (List ℕ)) (ps : List Param) where
  pub encoded-here : (same n (octets "encoding") and is_base64 vs) ≡ true → is_encoded (param n vs ∷ ps) ≡ true
  unfolding is_encoded any encodes called
  encoded-here h = rw h

  pub encoded-on : (same n (octets "encoding") and is_base64 vs) ≡ false → is_encoded (param n vs ∷ ps) ≡ is_encoded ps
  unfolding is_encoded any encodes called
  encoded-on h = rw h

-- written
pub more-none : more_values [] ≡ []
unfolding more_values
more-none = refl

pub more-next : (v : List ℕ) (vs : List (List ℕ)) → more_values (v ∷ vs) ≡ (octets "," ++ param_value_text v) ++ more_values vs
unfolding more_values
more-next v vs = refl

pub values-none : param_values_text [] ≡ []
unfolding param_values_text joined
values-none = refl

pub values_one : (v : List ℕ) → param_values_text (v ∷ []) ≡ param_value_text v
unfolding param_values_text joined
values_one v = refl

pub values-more : (v : List ℕ) (vs : List (List ℕ)) → param_values_text (v ∷ vs) ≡ param_value_text v ++ more_values vs
unfolding param_values_text
values-more v vs = joined-values v vs

pub params_none : params_text [] ≡ []
unfolding params_text
params_none = refl

pub params_more : (n : List ℕ) (vs : List (List ℕ)) (ps : List Param) → params_text (param n vs ∷ ps) ≡ (octets ";" ++ upper n ++ octets "=") ++ (param_values_text vs ++ params_text ps)
unfolding params_text param_text param_values_text
params_more n vs ps =
    append_assoc (code ";" ∷ upper n) (code "=" ∷ joined (code ",") (map param_value_text vs)) (params_text ps)
    ∙ sym (append_assoc (code ";" ∷ upper n) (octets "=") (param_values_text vs ++ params_text ps))
