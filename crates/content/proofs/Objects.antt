-- The parameters printed as an object: strings, arrays of them, keys, members.
use Prim.Native.Nat.{ℕ, ◌+◌, ◌-◌, ◌≤◌, ◌<◌}
use Prim.Native.Char.{code}
use mathlib.Core.Path.{◌≡◌, refl, sym, ap, ◌∙◌}
use mathlib.Core.Bool.{Bool, true, false}
use mathlib.Core.List.{List, [], ◌∷◌, ◌++◌, map, append_assoc}
use lib.ListN.{length, get_or, take, drop}
use lib.Seq.{take_all}
use Rattle.octets.specs.Basics.{octets, pick, ◌and◌, ◌or◌}
use Rattle.octets.specs.Classes.{lower_octet, lower, same_name}
use Rattle.octets.specs.Pen.{Pen, Wrote}
use Rattle.octets.proofs.Cases.{cases}
use Rattle.octets.proofs.Pen.{then}
use Rattle.octets.proofs.Positions.{here, ended, from, upto}
use Rattle.json_text.specs.Tree.{str, obj, items_of}
use Rattle.json_text.specs.Print.{escaped, quoted, print_string, print_key, print, first_item, more_items, first_member, more_members}
use Rattle.content.specs.Line.{Param, unquote, param_value, pieces}
use Rattle.content.specs.Carets.{decoded}
use Rattle.content.specs.Scan.{until_bare}
use Rattle.content.specs.Parts.{params_in, param_cut}
use Rattle.content.specs.Parameters.{called, is_base64, encodes, without_value, without_encoding, staying, plain_or, members_of}
use Rattle.content.specs.Object.{left_out}
use Rattle.content.proofs.Separators.{one_of, pieces-filled, piece-last, piece-on}
use Rattle.content.proofs.ParamAnswers.{is-value, is-encoding}

-- a value as a string
pub value-wrote : (v u : List ℕ) {o q r : Pen} → u ≡ unquote v → Wrote o (code "\"" ∷ []) q → Wrote q (quoted (decoded u)) r → Wrote o (print_string (param_value v)) r
unfolding print_string param_value
value-wrote v u k a b = rw (← k) (then a b)

-- the text of values behind a comma, and of all of them
abbrev pub more_text : List (List ℕ) → List ℕ
more_text ps = more_items (items_of (map str (map param_value ps)))

abbrev pub values_text : List (List ℕ) → List ℕ
values_text ps = print (plain_or (map str (map param_value ps)))

module _ (s : List ℕ) (e : ℕ) (q : e ≡ 0 + length (until_bare (one_of (code ",") (code ",")) false (drop 0 s))) where
  pub more-last : length s ≤ e → more_text (pieces (code ",") false s) ≡ (octets "," ++ print_string (param_value (take e s))) ++ octets "]"
  unfolding more_items print items_of
  more-last h = rw (piece-last (code ",") refl s 0 e q h, upto s e)

  pub more-on : e < length s → more_text (pieces (code ",") false s)
      ≡ (octets "," ++ print_string (param_value (take e s))) ++ more_text (pieces (code ",") false (take (length s - (e + 1)) (drop (e + 1) s)))
  unfolding more_items print items_of
  more-on h = rw (from s (e + 1)) (rw (piece-on (code ",") refl s 0 e q h, upto s e))

many-text : (v : List ℕ) (ps : List (List ℕ)) → (ps ≡ [] → ⊥) → values_text (v ∷ ps) ≡ octets "[" ++ (print_string (param_value v) ++ more_text ps)
unfolding plain_or print first_item items_of
many-text v [] n = absurd (n refl)
many-text v (w ∷ ps) n = refl

module _ (s : List ℕ) (e : ℕ) (q : e ≡ 0 + length (until_bare (one_of (code ",") (code ",")) false (drop 0 s))) where
  pub values_one : length s ≤ e → values_text (pieces (code ",") false s) ≡ print_string (param_value s)
  unfolding plain_or print
  values_one h = rw (one_piece h)
    where
      one_piece : length s ≤ e → pieces (code ",") false s ≡ s ∷ []
      one_piece h = piece-last (code ",") refl s 0 e q h ∙ rw (upto s e, take_all e s h)

  pub values-many : e < length s → values_text (pieces (code ",") false s)
      ≡ octets "[" ++ (print_string (param_value (take e s)) ++ more_text (pieces (code ",") false (take (length s - (e + 1)) (drop (e + 1) s))))
  values-many h = rw (from s (e + 1), ← upto s e) (ap values_text (piece-on (code ",") refl s 0 e q h) ∙ many-text (take (e - 0) (drop 0 s)) (pieces (code ",") false (drop (e + 1) s)) (pieces-filled (code ",") false (drop (e + 1) s)))

-- a key
module _ (s : List ℕ) (i : ℕ) where
  pub key-on : i < length s → quoted (lower (drop i s)) ++ octets ":" ≡ escaped (lower_octet (get_or s i 0)) ++ (quoted (lower (drop (i + 1) s)) ++ octets ":")
  unfolding quoted lower
  key-on h = rw (here s i h) (append_assoc (escaped (lower_octet (get_or s i 0))) _ _)

  pub key-end : length s ≤ i → quoted (lower (drop i s)) ++ octets ":" ≡ octets "\":"
  unfolding quoted lower
  key-end h = rw (ended s i h)

pub key-text : (s : List ℕ) → print_key (lower s) ≡ octets "\"" ++ (quoted (lower (drop 0 s)) ++ octets ":")
unfolding print_key print_string
key-text s = refl

-- the members that are left, where one is written already or not, and the closing brace
unfoldable pub members_text : Bool → Bool → List Param → List ℕ
members_text d b ps = pick b (more_members (members_of (staying d (without_value ps)))) (first_member (members_of (staying d (without_value ps))))

pub object-text : (d : Bool) (ps : List Param) → print (obj (members_of (staying d (without_value ps)))) ≡ octets "{" ++ members_text d false ps
unfolding print members_text
object-text d ps = refl

none_stays : (d : Bool) → staying d (without_value []) ≡ []
unfolding staying without_value without_encoding
none_stays true = refl
none_stays false = refl

stays : (d : Bool) (p : Param) (ps : List Param) → staying d (without_value (p ∷ ps)) ≡ pick (left_out d p) (staying d (without_value ps)) (p ∷ staying d (without_value ps))
unfolding left_out staying without_value without_encoding
stays true p ps = cases (called (octets "value") p) (λ h. rw h) (λ h. rw h)
stays false p ps = cases (called (octets "value") p) (λ h. rw h) (λ h. rw h)

members-none : (d b : Bool) → members_text d b [] ≡ octets "}"
unfolding members_text members_of more_members first_member
members-none d true = rw (none_stays d)
members-none d false = rw (none_stays d)

members-skip : (d b : Bool) (p : Param) (ps : List Param) → left_out d p ≡ true → members_text d b (p ∷ ps) ≡ members_text d b ps
unfolding members_text
members-skip d b p ps e = rw (stays d p ps, e)

members-put : (d b : Bool) (p : Param) (ps : List Param) → left_out d p ≡ false
    → members_text d b (p ∷ ps) ≡ (pick b (octets ",") [] ++ (print_key p.name ++ print (plain_or (map str p.values)))) ++ members_text d true ps
unfolding members_text members_of more_members first_member
members-put d true p ps e = rw (stays d p ps, e) (ap (λ (r : List ℕ). code "," ∷ r) (sym (append_assoc (print_key p.name) _ _)))
members-put d false p ps e = rw (stays d p ps, e) (sym (append_assoc (print_key p.name) _ _))

-- whether a parameter is left out
pub left_out_lem : (n v : List ℕ) (d : Bool) → left_out d (param_cut n v)
    ≡ (same_name n (octets "value") or (d and same_name n (octets "encoding") and is_base64 (map param_value (pieces (code ",") false v))))
unfolding left_out encodes param_cut
left_out_lem n v d = rw (is-value n v, is-encoding n v)

-- the walk
pub object-end : (s : List ℕ) (d b : Bool) → params_in s ≡ [] → members_text d b (params_in s) ≡ octets "}"
object-end s d b k = rw k (members-none d b)

module _ (s n v r : List ℕ) (d b : Bool) (k : params_in s ≡ param_cut n v ∷ params_in r) (out : Bool) (q : out ≡ left_out d (param_cut n v)) where
  pub object-skip : out ≡ true → members_text d b (params_in s) ≡ members_text d b (params_in r)
  object-skip t = rw k (members-skip d b (param_cut n v) _ (sym q ∙ t))

  pub object-on : out ≡ false
      → members_text d b (params_in s)
      ≡ (pick b (octets ",") [] ++ (print_key (lower n) ++ values_text (pieces (code ",") false v))) ++ members_text d true (params_in r)
  unfolding param_cut
  object-on t = rw k (members-put d b (param_cut n v) _ (sym q ∙ t))
