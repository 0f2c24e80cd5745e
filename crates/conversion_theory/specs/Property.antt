-- A property of a content line (01, numbers 7, 8, 9, Parameters and Which type; 02, [2]).
use Rattle.std.specs.Prelude.{ℕ, Bool, true, not, List}
use Rattle.std.proofs.Math.Option.{Option, none, some}
use Rattle.octets.specs.Basics.{octets}
use Rattle.octets.specs.Optional.{map?, then?}
use Rattle.octets.specs.Classes.{lower}
use Rattle.octets.specs.Answers.{Answer, then, or_else, unless}
use Rattle.types.specs.Codes.{type_name, code_named}
use Rattle.types.specs.Table.{Row, Table, find}
use Rattle.json_text.specs.Tree.{Json}
use Rattle.content.specs.Line.{Param, Line}
use Rattle.content.specs.Parameters.{name_twice, value_type, without_value, is_encoded, staying}
use Rattle.values.specs.Base64.{binary_fits, is_decoded, text_sent}
use Rattle.values.specs.Read.{values_of}
use Rattle.conversion_theory.specs.Tree.{Property, property}

-- VALUE's type, else the name's default, else "unknown"
unfoldable pub type_of : Option Row → Option (List ℕ) → List ℕ
type_of row (some t) = t
type_of (some r) none = type_name r.code
type_of none none = octets "unknown"

-- its code
unfoldable pub code_of : Option Row → Option (List ℕ) → ℕ
code_of row type = code_named (type_of row type)

-- one or many belongs to the name; an unlisted one may have many
unfoldable pub many_of : Option Row → Bool
many_of (some r) = r.many
many_of none = true

-- 02, [2]: whether the value is decoded, by its type and ENCODING
unfoldable pub decodes_in : Option Row → Option (List ℕ) → List Param → Bool
decodes_in row type params = is_decoded (code_of row type) (is_encoded params)

-- the values in the octets that are the value's text
unfoldable pub values_sent : Bool → List ℕ → ℕ → Bool → List ℕ → Option (List Json)
values_sent decodes name c many raw = then? (text_sent decodes raw) (values_of name c many)

-- a property by its name's row alone: its lowercase name, VALUE's type, the other parameters, the value as received
unfoldable pub read_as : Option Row → List ℕ → Option (List ℕ) → List Param → List ℕ → Answer Property
read_as row name type params raw =
    unless 8 (binary_fits (code_of row type) (is_encoded params)) (λ _.
    or_else 9 (map? (property name (staying (decodes_in row type params) params) (type_of row type))
    (values_sent (decodes_in row type params) name (code_of row type) (many_of row) raw)))

unfoldable pub read_property : Table → Line → Answer Property
read_property t l =
    unless 7 (not (name_twice l.params)) (λ _.
    then (value_type l.params) (λ type.
    read_as (find t l.name) (lower l.name) type (without_value l.params) l.value))
