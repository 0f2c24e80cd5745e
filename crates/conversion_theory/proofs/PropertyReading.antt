-- What an accepted property says of its line and of its name's row, and what makes one.
use Prim.Native.Nat.{ℕ}
use mathlib.Core.Path.{◌≡◌, refl, ◌∙◌}
use mathlib.Core.Bool.{true, false, not}
use mathlib.Core.List.{List}
use mathlib.Core.Option.{Option, none, some}
use Rattle.octets.specs.Basics.{same}
use Rattle.octets.specs.Optional.{map?, then?}
use Rattle.octets.specs.Classes.{lower}
use Rattle.octets.specs.Answers.{Answer, accepted, then, or_else, unless}
use Rattle.octets.proofs.Optional.{map_is, then_is}
use Rattle.octets.proofs.Answers.{then-accepted, or_else-accepted, unless-accepted}
use Rattle.types.specs.Codes.{unprocessed, type_names, place_from, code_named}
use Rattle.types.specs.Table.{Row, Table, find}
use Rattle.json_text.specs.Tree.{Json}
use Rattle.content.specs.Line.{Param, Line}
use Rattle.content.specs.Parameters.{name_twice, value_type, without_value, is_encoded, staying}
use Rattle.values.specs.Base64.{binary_fits, text_sent}
use Rattle.values.specs.Read.{values_of}
use Rattle.conversion_theory.specs.Tree.{Property, property}
use Rattle.conversion_theory.specs.Property.{type_of, code_of, many_of, decodes_in, values_sent, read_as, read_property}

-- by its name's row: ENCODING fits, this is its text, and these are its values
pub record ReadAs (row : Option Row) (name : List ℕ) (type : Option (List ℕ)) (params : List Param) (raw : List ℕ) (p : Property) : Type 0 where
  pub fits : binary_fits (code_of row type) (is_encoded params) ≡ true
  pub text : List ℕ
  pub sent : text_sent (decodes_in row type params) raw ≡ some text
  pub held : List Json
  pub values : values_of name (code_of row type) (many_of row) text ≡ some held
  pub whole : property name (staying (decodes_in row type params) params) (type_of row type) held ≡ p

module _ (row : Option Row) (name : List ℕ) (type : Option (List ℕ)) (params : List Param) (raw : List ℕ) where
  pub read_as_lem : (p : Property) → read_as row name type params raw ≡ accepted p → ReadAs row name type params raw p
  unfolding read_as values_sent
  read_as_lem p e =
      let made = property name (staying (decodes_in row type params) params) (type_of row type) in
      let values = values_sent (decodes_in row type params) name (code_of row type) (many_of row) raw in
      let u = unless-accepted 8 (binary_fits (code_of row type) (is_encoded params)) (λ _. or_else 9 (map? made values)) p e in
      map_is made values p (or_else-accepted 9 (map? made values) p u.1) (λ vs h w.
      then_is (text_sent (decodes_in row type params) raw) (values_of name (code_of row type) (many_of row)) vs h (λ s t v.
      record { fits = u.0; text = s; sent = t; held = vs; values = v; whole = w }))

  pub as_read : (text : List ℕ) (vs : List Json) → binary_fits (code_of row type) (is_encoded params) ≡ true → text_sent (decodes_in row type params) raw ≡ some text
      → values_of name (code_of row type) (many_of row) text ≡ some vs
      → read_as row name type params raw ≡ accepted (property name (staying (decodes_in row type params) params) (type_of row type) vs)
  unfolding read_as values_sent unless or_else map? then?
  as_read text vs f t h = rw (f, t, h)

  -- what is not decoded is read as it is, and all parameters stay
  pub plain-read : (vs : List Json) → decodes_in row type params ≡ false → binary_fits (code_of row type) (is_encoded params) ≡ true
      → values_of name (code_of row type) (many_of row) raw ≡ some vs → read_as row name type params raw ≡ accepted (property name params (type_of row type) vs)
  unfolding text_sent staying
  plain-read vs d f h = as_read raw vs f (rw d) h ∙ rw d

-- of what VALUE says, only the type's name counts
pub read_alike : (row : Option Row) (v w : Option (List ℕ)) → type_of row v ≡ type_of row w
    → (name : List ℕ) (params : List Param) (raw : List ℕ) → read_as row name v params raw ≡ read_as row name w params raw
unfolding read_as code_of decodes_in
read_alike row v w t name params raw = rw t

-- without a row and without VALUE the value is unprocessed
pub unprocessed-code : code_of none none ≡ unprocessed
unfolding code_of type_of code_named place_from type_names same
unprocessed-code = refl

-- of its line: no parameter name twice, the type that VALUE names, and the property by its row
pub record ReadLine (t : Table) (l : Line) (p : Property) : Type 0 where
  pub once : not (name_twice l.params) ≡ true
  pub type : Option (List ℕ)
  pub stated : value_type l.params ≡ accepted type
  pub read : read_as (find t l.name) (lower l.name) type (without_value l.params) l.value ≡ accepted p

module _ (t : Table) (l : Line) where
  pub read-line : (p : Property) → read_property t l ≡ accepted p → ReadLine t l p
  unfolding read_property
  read-line p e =
      let by : Option (List ℕ) → Answer Property = λ type. read_as (find t l.name) (lower l.name) type (without_value l.params) l.value in
      let u = unless-accepted 7 (not (name_twice l.params)) (λ _. then (value_type l.params) by) p e in
      then-accepted (value_type l.params) by p u.1 (λ type s r. record { once = u.0; type = type; stated = s; read = r })

  pub line_read_lem : (type : Option (List ℕ)) → not (name_twice l.params) ≡ true → value_type l.params ≡ accepted type
      → read_property t l ≡ read_as (find t l.name) (lower l.name) type (without_value l.params) l.value
  unfolding read_property unless then
  line_read_lem type o s = rw (o, s)
