-- What a property's tests tell, and its octets part by part.
use Prim.Native.Nat.{ℕ, zero, suc, ◌-◌, ◌≤◌, ◌<◌}
use Prim.Native.Char.{code}
use mathlib.Core.Path.{◌≡◌, refl, sym, ap, ◌∙◌}
use mathlib.Core.Bool.{Bool, true, false, not}
use mathlib.Core.List.{List, [], ◌∷◌, ◌++◌, append_assoc}
use mathlib.Core.Option.{Option, none, some}
use native.Mathlib.Omega.{arith}
use borrow.Author.Tests.{leb-true, leb-false, le-leb, lt-leb, not-true, not-false}
use lib.Dec.{eqb, leb}
use lib.ListN.{length, take, drop}
use Rattle.octets.specs.Basics.{octets, pick, ◌or◌, all, any, same, filled, twice}
use Rattle.octets.specs.Optional.{map?}
use Rattle.octets.specs.Groups.{as_is_octet}
use Rattle.octets.specs.Classes.{is_name, lower, lower_name_octet, is_lower_name, is_lower, is_digit, between}
use Rattle.octets.specs.Answers.{Answer, refused, accepted, then, or_else, unless}
use Rattle.octets.specs.Pen.{Pen, pen, Wrote}
use Rattle.octets.proofs.Cases.{cases, both, all_weaker, and-false-right}
use Rattle.octets.proofs.Classes.{same-is, name-lower as name-lowers}
use Rattle.octets.proofs.Answers.{not-accepted}
use Rattle.octets.proofs.Pen.{then as behind, as-text, front-behind as kept-behind}
use Rattle.octets.proofs.Positions.{upto, from}
use Rattle.json_text.specs.Tree.{Json, obj}
use Rattle.json_text.specs.Print.{quoted, print_string, print, first_item, more_items, first_member, values_json}
use Rattle.types.specs.Codes.{unprocessed, binary, type_name}
use Rattle.types.specs.Table.{Row, Table, find}
use Rattle.types.proofs.Types.{name-lower, nameless}
use Rattle.content.specs.Line.{Param, Line, pieces, line_of}
use Rattle.content.specs.Parts.{other_pieces, params_in, line_at, Cut}
use Rattle.content.specs.Kinds.{value_type_said}
use Rattle.content.specs.declared.parts.Parts.{Parts}
use Rattle.std.specs.Prelude.{Some, None, Ok, Err, is_ok}
use Rattle.std.specs.declared.option.Option as coded
use Rattle.std.specs.declared.result.Result as ended
use Rattle.content.specs.Parameters.{called, name_twice, value_type, without_value, encodes, is_encoded, staying, members_of}
use Rattle.content.specs.Reading.{room_for_lines}
use Rattle.values.specs.Base64.{binary_fits, is_decoded}
use Rattle.values.proofs.Arrays.{items-json}
use Rattle.jcal_values.proofs.Quoting.{quoted-bare, bare-class}
use Rattle.conversion_theory.specs.Tree.{Property, property}
use Rattle.conversion_theory.specs.Property.{type_of, code_of, many_of, decodes_in, values_sent, read_as, read_property}
use Rattle.conversion_theory.specs.Jcal.{property_json}
use Rattle.jcal_properties.specs.Passed.{params_tested}
use Rattle.jcal_properties.specs.Placed.{line_with, PlacesValues, FrontStands, line_read, PropertyWritten, Places}
use Rattle.octets.specs.declared.Refusal.{Refusal}
use Rattle.std.specs.declared.result.Result.{Result}
use Rattle.std.specs.declared.result.Result.TheVariants.{Ok, Err}
use Rattle.jcal_properties.specs.Shown.{named_type, front_text}

-- ENCODING is asked for with VALUE or without it
not-both-names : (p : Param) → called (octets "value") p ≡ true → encodes p ≡ false
unfolding encodes called
not-both-names p h = rw (same-is p.name (octets "value") h) (unfold same in refl)

pub encoded-without : (ps : List Param) → is_encoded (without_value ps) ≡ is_encoded ps
unfolding is_encoded any without_value
encoded-without [] = refl
encoded-without (p ∷ ps) = cases (called (octets "value") p)
    (λ h. rw (h, not-both-names p h) (encoded-without ps))
    (λ h. rw h (ap (λ (b : Bool). encodes p or b) (encoded-without ps)))

-- a name in lowercase stands in a string as it is
name-quoted : (n : List ℕ) → all lower_name_octet n ≡ true → n ++ octets "\"" ≡ quoted n
unfolding lower_name_octet is_lower is_digit between
name-quoted n h = sym (quoted-bare n (all_weaker lower_name_octet as_is_octet (bare-class lower_name_octet refl refl refl refl) n h))

type-octets : (c : ℕ) → all lower_name_octet (type_name c) ≡ true
type-octets zero = unfold type_name all in refl
type-octets (suc c) = cases (leb (suc c) 14)
    (λ h. (both (filled (type_name (suc c))) (all lower_name_octet (type_name (suc c))) (unfold is_lower_name in name-lower (suc c) (omega arith) (leb-true (suc c) 14 h))).1)
    (λ h. rw (nameless (suc c) (leb-false (suc c) 14 h)) (unfold all in refl))

pub type-quoted : (c : ℕ) → (octets "\"" ++ type_name c) ++ octets "\"" ≡ print_string (type_name c)
unfolding print_string
type-quoted c = ap (λ (r : List ℕ). code "\"" ∷ r) (name-quoted (type_name c) (type-octets c))

pub name-string : (n : List ℕ) → is_name n ≡ true → (octets "\"" ++ lower n) ++ octets "\"" ≡ print_string (lower n)
unfolding print_string
name-string n h = ap (λ (r : List ℕ). code "\"" ∷ r) (name-quoted (lower n) (both (filled (lower n)) (all lower_name_octet (lower n)) (unfold is_lower_name in name-lowers n h)).1)

-- the octets of a property
front-behind : (n : List ℕ) (d : Bool) (ps : List Param) (r : List ℕ)
    → front_text n d ps ++ r ≡ octets "[" ++ (print_string (lower n) ++ (octets "," ++ (print (obj (members_of (staying d (without_value ps)))) ++ (octets "," ++ r))))
unfolding front_text
front-behind n d ps r = ap (λ (s : List ℕ). octets "[" ++ s) (append_assoc (print_string (lower n)) _ r ∙ ap (λ (s : List ℕ). print_string (lower n) ++ (octets "," ++ s)) (append_assoc (print (obj (members_of (staying d (without_value ps))))) (octets ",") r))

property-text : (n : List ℕ) (d : Bool) (ps : List Param) (type : List ℕ) (vs : List Json)
    → print (property_json (property (lower n) (staying d (without_value ps)) type vs)) ≡ front_text n d ps ++ (print_string type ++ (values_json vs ++ octets "]"))
unfolding property_json print first_item more_items
property-text n d ps type vs = rw (items-json vs) (sym (front-behind n d ps (print_string type ++ (values_json vs ++ octets "]"))))

four : (a b c d : List ℕ) → ((a ++ b) ++ c) ++ d ≡ a ++ (b ++ (c ++ d))
four a b c d = append_assoc (a ++ b) c d ∙ append_assoc a b (c ++ d)

pub front-wrote : (n : List ℕ) (d : Bool) (ps : List Param) → (((octets "[" ++ print_string (lower n)) ++ octets ",") ++ print (obj (members_of (staying d (without_value ps))))) ++ octets "," ≡ front_text n d ps
unfolding front_text
front-wrote n d ps = ap (λ (s : List ℕ). octets "[" ++ s) (four (print_string (lower n)) (octets ",") (print (obj (members_of (staying d (without_value ps))))) (octets ","))

-- a line that a buffer of lines has room for is read, and a longer one is not
module _ (t : Table) (l : List ℕ) where
  pub line-fits : length l ≤ room_for_lines → line_read t l ≡ read_property t (line_of l)
  unfolding line_read unless
  line-fits h = rw (le-leb (length l) room_for_lines h)

  pub line-long : room_for_lines < length l → line_read t l ≡ refused 1
  unfolding line_read unless
  line-long h = rw (lt-leb (length l) room_for_lines h)

-- a line by the places of its parts, as slices lend them
module _ (l : List ℕ) (p : Parts) (k : Cut l p) where
  abbrev parted : Line
  parted = record {
    name = take (p.name - 0) (drop 0 l);
    params = params_in (take (p.colon - p.name) (drop p.name l));
    value = take (length l - p.value) (drop p.value l);
  }

  parts-line : parted ≡ line_of l
  unfolding line_at
  parts-line = rw (upto l p.name, from l p.value) k.line

  pub parts-read : (t : Table) → length l ≤ room_for_lines → line_read t l ≡ read_property t parted
  parts-read t h = line-fits t l h ∙ ap (read_property t) (sym parts-line)

-- number 7
pub params-twice : (t : Bool) (a : Answer (Option (List ℕ))) → t ≡ true → refused 7 ≡ params_tested t a
unfolding params_tested unless
params-twice t a h = rw h

pub params-once : {A E : Type 0} (f : A → List ℕ) (t : Bool) (k : ended.Result (coded.Option A) E) {fit : Bool} → t ≡ false → fit ≡ is_ok k
    → pick fit (accepted tt) (refused 7) ≡ params_tested t (value_type_said f k)
unfolding params_tested unless then value_type_said
params-once f t (Ok None) h q = rw (h, q)
params-once f t (Ok (Some a)) h q = rw (h, q)
params-once f t (Err e) h q = rw (h, q)

-- the type that is told of VALUE
module _ {A E : Type 0} (f : A → List ℕ) (k : ended.Result (coded.Option A) E) where
  pub kind-none : {o : coded.Option A} → k ≡ Ok o → o ≡ None → none ≡ named_type (value_type_said f k)
  unfolding value_type_said named_type
  kind-none e q = rw (e, q)

  pub kind-some : {o : coded.Option A} {a : A} → k ≡ Ok o → o ≡ Some a → some (lower (f a)) ≡ named_type (value_type_said f k)
  unfolding value_type_said named_type
  kind-some e q = rw (e, q)

  pub kind-fault : {e : E} → k ≡ Err e → none ≡ named_type (value_type_said f k)
  unfolding value_type_said named_type
  kind-fault q = rw q

-- what number 7 leaves of the reading
module _ (f : Option (List ℕ) → Answer Property) where
  seven-refused : (twice : Bool) (a : Answer (Option (List ℕ))) → refused 7 ≡ params_tested twice a → unless 7 (not twice) (λ _. then a f) ≡ refused 7
  unfolding params_tested unless then
  seven-refused true a e = refl
  seven-refused false (refused n) e = let z : ◌≡◌ {A = ℕ} 7 n = cc in ap refused (sym z)
  seven-refused false (accepted type) e = not-accepted e

  seven-passed : (twice : Bool) (a : Answer (Option (List ℕ))) → accepted tt ≡ params_tested twice a → unless 7 (not twice) (λ _. then a f) ≡ f (named_type a)
  unfolding params_tested unless then named_type
  seven-passed true a e = not-accepted (sym e)
  seven-passed false (refused n) e = not-accepted (sym e)
  seven-passed false (accepted type) e = refl

module _ (name : List ℕ) (ps : List Param) (fit : Bool) (a : Answer (Option (List ℕ))) (e : a ≡ value_type ps) (k : pick fit (accepted (tt {0})) (refused 7) ≡ params_tested (name_twice ps) a) where
  pub given-refused : not fit ≡ true → (t : Table) (v : List ℕ) → read_property t (line_with name ps v) ≡ refused 7
  unfolding read_property
  given-refused h t v = rw (← e) (seven-refused _ (name_twice ps) a (rw (not-true fit h) at k))

  pub given-read : not fit ≡ false → (t : Table) (v : List ℕ) → read_property t (line_with name ps v) ≡ read_as (find t name) (lower name) (named_type a) (without_value ps) v
  unfolding read_property
  given-read h t v = rw (← e) (seven-passed _ (name_twice ps) a (rw (not-false fit h) at k))

pub plain-read : (name : List ℕ) (t : Table) (v : List ℕ) → read_property t (line_with name [] v) ≡ read_as (find t name) (lower name) none (without_value []) v
unfolding read_property name_twice twice value_type unless then
plain-read name t v = refl

-- a value without ENCODING=BASE64 is not decoded
pub plain-undecoded : (code : ℕ) → false ≡ is_decoded code false
unfolding is_decoded
plain-undecoded code = sym (rw (and-false-right (not (eqb code binary)), and-false-right (not (eqb code unprocessed))))

-- 8, by the row of the name and the type
module _ (name : List ℕ) (ps : List Param) (type : Option (List ℕ)) (r : (t : Table) (v : List ℕ) → read_property t (line_with name ps v) ≡ read_as (find t name) (lower name) type (without_value ps) v)
    (row : Option Row) (code : ℕ) (e₂ : code ≡ code_of row type) (enc fits : Bool) (e₃ : enc ≡ is_encoded ps) (e₄ : fits ≡ binary_fits code enc) where
  fits-is : binary_fits (code_of row type) (is_encoded (without_value ps)) ≡ fits
  fits-is = rw (encoded-without ps, ← e₂, ← e₃) (sym e₄)

  pub eight-refused : not fits ≡ true → (t : Table) (v : List ℕ) → row ≡ find t name → read_property t (line_with name ps v) ≡ refused 8
  unfolding read_as unless
  eight-refused h t v e = r t v ∙ rw (← e, fits-is, not-true fits h)

  module _ (decodes : Bool) (e₅ : decodes ≡ is_decoded code enc) where
    decodes-is : decodes_in row type (without_value ps) ≡ decodes
    unfolding decodes_in
    decodes-is = rw (encoded-without ps, ← e₂, ← e₃) (sym e₅)

    eight-passed : not fits ≡ false → (t : Table) (v : List ℕ) → row ≡ find t name
        → read_property t (line_with name ps v) ≡ or_else 9 (map? (property (lower name) (staying decodes (without_value ps)) (type_of row type)) (values_sent decodes (lower name) code (many_of row) v))
    unfolding read_as unless
    eight-passed h t v e = r t v ∙ rw (← e, fits-is, not-false fits h, decodes-is, ← e₂)

    pub front-stands : not fits ≡ false → {p a b : Pen} → Wrote p (front_text name decodes ps) a → Wrote a (print_string (type_of row type)) b → FrontStands row name ps code decodes p b
    front-stands h f y = record { type = type; read = eight-passed h; wrote = behind f y }

-- 9, behind a front that stands
pub nine-placed : (t : Table) (name value : List ℕ) (ps : List Param) (row : Option Row) → row ≡ find t name → (code : ℕ) (decodes : Bool) {p b : Pen} → FrontStands row name ps code decodes p b
    → (out : List ℕ) (z : Result ℕ Refusal) → PlacesValues (values_sent decodes (lower name) code (many_of row) value) b out z → Places (read_property t (line_with name ps value)) p out z
unfolding or_else map?
nine-placed t name value ps row e code d f out (Ok q) v = record {
  property = property (lower name) (staying d (without_value ps)) (type_of row f.type) v.0;
  read = f.read t value e ∙ rw v.1;
  wrote = as-text (behind f.wrote v.2) (append_assoc (front_text name d ps) _ _ ∙ sym (property-text name d ps (type_of row f.type) v.0));
}
nine-placed t name value ps row e code d f out (Err why) v = (f.read t value e ∙ rw (v.0, v.1), kept-behind f.wrote v.2)

-- a property without parameters up to its type
pub plain-front : (n : List ℕ) → (octets "[" ++ print_string (lower n)) ++ octets ",{}," ≡ front_text n false []
unfolding front_text print first_member members_of staying without_value
plain-front n = append_assoc (octets "[") (print_string (lower n)) (octets ",{},")

pub no-params : (s : List ℕ) → length s ≡ 0 → params_in s ≡ []
unfolding params_in pieces other_pieces
no-params [] e = refl
no-params (x ∷ s) e = absurd (omega arith)

-- the values that are written or not
pub values-wrote : (o : Option (List Json)) {p m : Pen} (out : List ℕ) (q : ℕ) → (vs : List Json) × (o ≡ some vs) × Wrote p (values_json vs) m → Wrote m (octets "]") (pen out q)
    → (vs : List Json) × (o ≡ some vs) × Wrote p (values_json vs ++ octets "]") (pen out q)
values-wrote o out q v w = (v.0, v.1, behind v.2 w)

-- the answer of a property that is placed as its test
pub stands-passed : (a : Answer Property) {p q : Pen} → PropertyWritten a p q → accepted (tt {0}) ≡ then a (λ _. accepted tt)
unfolding then
stands-passed a z = rw z.read

pub refused-failed : (a : Answer Property) (n : ℕ) → a ≡ refused n → refused n ≡ then a (λ _. accepted (tt {0}))
unfolding then
refused-failed a n e = rw e
