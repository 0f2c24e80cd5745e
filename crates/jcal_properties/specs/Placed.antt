-- What `place_property` answers: the property is read and written, or it is refused by the number of its first test that fails;
-- a line that a buffer of lines has no room for is refused before these.
-- Where it is refused, what stands in front of the pen is as it was, and the rest of the buffer is the code's choice.
use Rattle.std.specs.Prelude.{ℕ, ◌≡◌, Bool, List, ◌++◌, leb, length, Ok, Err}
use Rattle.std.proofs.Math.Option.{Option, none, some}
use Rattle.octets.specs.Basics.{octets}
use Rattle.octets.specs.Classes.{lower}
use Rattle.octets.specs.Optional.{map?}
use Rattle.octets.specs.Answers.{Answer, refused, accepted, or_else, unless, number}
use Rattle.octets.specs.Pen.{Pen, pen, Wrote, FrontKept}
use Rattle.json_text.specs.Tree.{Json}
use Rattle.json_text.specs.Print.{print, print_string, values_json}
use Rattle.types.specs.Table.{Row, Table, find}
use Rattle.content.specs.Line.{Param, Line, line_of}
use Rattle.content.specs.Parameters.{without_value, staying}
use Rattle.content.specs.Reading.{room_for_lines}
use Rattle.conversion_theory.specs.Tree.{Property, property}
use Rattle.conversion_theory.specs.Property.{type_of, many_of, values_sent, read_property}
use Rattle.conversion_theory.specs.Jcal.{property_json}
use Rattle.jcal_properties.specs.Shown.{front_text}
use Rattle.jcal_properties.specs.declared.property.Fronted.{Fronted}
use Rattle.octets.specs.declared.Refusal.{Refusal}
use Rattle.std.specs.declared.result.Result.{Result}

abbrev pub line_with : List ℕ → List Param → List ℕ → Line
line_with n ps v = record { name = n; params = ps; value = v }

-- the values are read and written, with what closes the property; or number 9
abbrev pub PlacesValues : Option (List Json) → Pen → List ℕ → Result ℕ Refusal → Type 0
PlacesValues o p out (Ok q) = (vs : List Json) × (o ≡ some vs) × Wrote p (values_json vs ++ octets "]") (pen out q)
PlacesValues o p out (Err why) = (o ≡ none) × (number why ≡ 9) × FrontKept p out

-- a property whose name has this row passes 7 and 8, and is written up to its values, from p to q; by its type and parameters its value is decoded or not
pub record FrontStands (row : Option Row) (n : List ℕ) (ps : List Param) (c : ℕ) (decodes : Bool) (p q : Pen) : Type 0 where
  pub type : Option (List ℕ)
  pub read : (t : Table) (v : List ℕ) → row ≡ find t n → read_property t (line_with n ps v) ≡ or_else 9 (map? (property (lower n) (staying decodes (without_value ps)) (type_of row type)) (values_sent decodes (lower n) c (many_of row) v))
  pub wrote : Wrote p (front_text n decodes ps ++ print_string (type_of row type)) q

-- the front stands, with the code of its type and whether its value is decoded; or any value behind it is refused by 7 or 8
abbrev pub Fronts : Option Row → List ℕ → List Param → Pen → List ℕ → Result Fronted Refusal → Type 0
Fronts row n ps p out (Ok f) = FrontStands row n ps f.code f.decodes p (pen out f.to)
Fronts row n ps p out (Err why) = ((t : Table) (v : List ℕ) → row ≡ find t n → read_property t (line_with n ps v) ≡ refused (number why)) × FrontKept p out

-- the property of a line that a buffer of lines has room for; a longer line is 1
unfoldable pub line_read : Table → List ℕ → Answer Property
line_read t line = unless 1 (leb (length line) room_for_lines) (λ _. read_property t (line_of line))

-- by what is answered of a property: it is read, and written from p to q
pub record PropertyWritten (a : Answer Property) (p q : Pen) : Type 0 where
  pub property : Property
  pub read : a ≡ accepted property
  pub wrote : Wrote p (print (property_json property)) q

abbrev pub Places : Answer Property → Pen → List ℕ → Result ℕ Refusal → Type 0
Places a p out (Ok q) = PropertyWritten a p (pen out q)
Places a p out (Err why) = (a ≡ refused (number why)) × FrontKept p out
