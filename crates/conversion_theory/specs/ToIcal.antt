-- The conversion to iCalendar: the tests in the order of their numbers, and the lines of a component (01, Refusal numbers and their order, Lines).
use Rattle.std.specs.Prelude.{ℕ, List, [], ◌∷◌, ◌++◌, map, leb, length}
use Rattle.octets.specs.Basics.{octets}
use Rattle.octets.specs.Classes.{upper}
use Rattle.octets.specs.Utf8.{utf8}
use Rattle.octets.specs.Limits.{most_text}
use Rattle.octets.specs.Answers.{Answer, refused, accepted, then, unless}
use Rattle.types.specs.Table.{Table, find}
use Rattle.types.specs.Rows.{table_of}
use Rattle.json_text.specs.Tree.{Json}
use Rattle.json_text.specs.Reads.{Out, ok, deep, bad}
use Rattle.json_text.specs.Reader.{parse_text}
use Rattle.content.specs.Fold.{text_of}
use Rattle.conversion_theory.specs.Tree.{Property, Component, component, Forest, leaf, grow, properties_of}
use Rattle.conversion_theory.specs.Skeleton.{calendar_of}
use Rattle.conversion_theory.specs.Return.{checked, written_line}

-- 6 or 11
unfoldable pub json_of : Out Json → Answer Json
json_of (ok j s) = accepted j
json_of deep = refused 6
json_of bad = refused 11

-- 7, 8, 9 at the first property in fault, in the order of the JSON text
unfoldable pub checked_all : Table → List Property → Answer (Unit {0})
checked_all t [] = accepted tt
checked_all t (p ∷ ps) = then (checked (find t p.name) p) (λ _. checked_all t ps)

unfoldable pub begin_line : List ℕ → List ℕ
begin_line n = octets "BEGIN:" ++ upper n

unfoldable pub end_line : List ℕ → List ℕ
end_line n = octets "END:" ++ upper n

unfoldable pub property_line : Table → Property → List ℕ
property_line t p = written_line (find t p.name) p

-- the content lines of a component: its properties, then its sub-components, each in order
unfoldable mutual
  pub component_lines : Table → Component → List (List ℕ)
  component_lines t (component n ps cs) = begin_line n ∷ map (property_line t) ps ++ (forest_lines t cs ++ end_line n ∷ [])

  pub forest_lines : Table → Forest → List (List ℕ)
  forest_lines t leaf = []
  forest_lines t (grow c cs) = component_lines t c ++ forest_lines t cs

unfoldable pub written : Table → Component → Answer (List ℕ)
written t c = then (checked_all t (properties_of c)) (λ _. accepted (text_of (component_lines t c)))

unfoldable pub to_ical : List ℕ → List ℕ → Answer (List ℕ)
to_ical rows text =
    unless 1 (leb (length text) most_text) (λ _.
    then (table_of rows) (λ t.
    unless 3 (utf8 text) (λ _.
    then (json_of (parse_text text)) (λ j.
    then (calendar_of j) (λ c.
    written t c)))))
