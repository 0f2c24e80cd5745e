-- A property on its way to iCalendar: what it must be (01, numbers 7, 8, 9; 02, [2]), and its content line (01, Which type, Parameters).
use Rattle.std.specs.Prelude.{ℕ, Bool, true, false, not, List, [], ◌∷◌, eqb}
use Rattle.std.proofs.Math.Option.{Option, none, some}
use Rattle.octets.specs.Basics.{octets, pick, ◌and◌, ◌or◌, all, same}
use Rattle.octets.specs.Classes.{upper}
use Rattle.octets.specs.Answers.{Answer, accepted, unless}
use Rattle.types.specs.Codes.{code_named}
use Rattle.types.specs.Table.{Row}
use Rattle.json_text.specs.Tree.{Json, octets_of}
use Rattle.content.specs.Line.{Param}
use Rattle.content.specs.Parameters.{is_encoded, may_return}
use Rattle.content.specs.Write.{line_text}
use Rattle.values.specs.Base64.{binary_fits, is_decoded}
use Rattle.values.specs.Sorts.{Sort, plain, sort_of}
use Rattle.values.specs.Write.{values_are, values_text}
use Rattle.conversion_theory.specs.Tree.{Property}
use Rattle.conversion_theory.specs.Property.{code_of, many_of, read_as}

unfoldable pub is_unknown : List ℕ → Bool
is_unknown t = same t (octets "unknown")

-- the type that jCal states; "unknown" states none
unfoldable pub stated_type : List ℕ → Option (List ℕ)
stated_type t = pick (is_unknown t) none (some t)

-- number 8: binary has ENCODING=BASE64; nothing that states another of the fourteen types has it
unfoldable pub states_plain : Option (List ℕ) → Bool → Bool
states_plain none encoded = true
states_plain (some t) encoded = not (is_decoded (code_named t) encoded)

unfoldable pub encoding_fits : Option Row → Option (List ℕ) → Bool → Bool
encoding_fits row stated encoded = binary_fits (code_of row stated) encoded and states_plain stated encoded

-- an "unknown" value is written unprocessed, whatever its name
unfoldable pub written_sort : Property → Sort
written_sort p = pick (is_unknown p.type) plain (sort_of p.name (code_named p.type))

unfoldable pub first_octets : List Json → List ℕ
first_octets [] = []
first_octets (j ∷ js) = octets_of j

-- an "unknown" value under a listed name must be what the name takes without VALUE; one that is encoded is decoded for this (02, [2])
unfoldable pub taken_by : Option Row → Property → Answer Property
taken_by none p = accepted p
taken_by (some r) p = read_as (some r) p.name none p.params (first_octets p.values)

unfoldable pub checked : Option Row → Property → Answer Property
checked row p =
    unless 7 (all may_return p.params) (λ _.
    unless 8 (encoding_fits row (stated_type p.type) (is_encoded p.params)) (λ _.
    unless 9 (values_are (many_of row) (written_sort p) p.values) (λ _.
    pick (is_unknown p.type) (taken_by row p) (accepted p))))

-- VALUE is left out for "unknown" and for the default, and written otherwise
unfoldable pub is_default : Option Row → List ℕ → Bool
is_default none t = false
is_default (some r) t = eqb r.code (code_named t)

unfoldable pub shown : Option Row → List ℕ → Option (List ℕ)
shown row t = pick (is_unknown t or is_default row t) none (some t)

-- VALUE is written first, behind the name
unfoldable pub with_value : Option (List ℕ) → List Param → List Param
with_value none ps = ps
with_value (some t) ps = record { name = octets "value"; values = upper t ∷ [] } ∷ ps

unfoldable pub written_line : Option Row → Property → List ℕ
written_line row p = line_text p.name (with_value (shown row p.type) p.params) (values_text (written_sort p) p.values)
