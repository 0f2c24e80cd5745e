-- The reading of an iCalendar text, and its conversion to jCal: the tests in the order of their numbers (01, Refusal numbers and their order).
use Rattle.std.specs.Prelude.{ℕ, List, map, leb, length}
use Rattle.octets.specs.Limits.{most_text}
use Rattle.octets.specs.Answers.{Answer, accepted, then, unless}
use Rattle.types.specs.Table.{Table}
use Rattle.types.specs.Rows.{table_of}
use Rattle.json_text.specs.Print.{print}
use Rattle.content.specs.Lines.{lines_of}
use Rattle.content.specs.Form.{content_lines}
use Rattle.content.specs.Line.{Line, line_of}
use Rattle.conversion_theory.specs.Tree.{Property, Component}
use Rattle.conversion_theory.specs.Structure.{event_of, structured}
use Rattle.conversion_theory.specs.Growth.{each_property, tree_of}
use Rattle.conversion_theory.specs.Property.{read_property}
use Rattle.conversion_theory.specs.Jcal.{jcal_of}

-- numbers 3, 4, then 5 or 6, then what f refuses at the first property in fault
unfoldable pub read_lines_by : (Line → Answer Property) → List (List ℕ) → Answer Component
read_lines_by f ls =
    then (content_lines ls) (λ ks.
    then (structured (map (λ l. event_of (line_of l)) ks)) (λ es.
    then (each_property f es) (λ ps. accepted (tree_of ps))))

unfoldable pub read_lines : Table → List (List ℕ) → Answer Component
read_lines t ls = read_lines_by (read_property t) ls

-- 01, How much each answer fixes: the reading of a stream under a table
unfoldable pub reading : List ℕ → List ℕ → Answer Component
reading rows text = unless 1 (leb (length text) most_text) (λ _. then (table_of rows) (λ t. read_lines t (lines_of text)))

unfoldable pub to_jcal : List ℕ → List ℕ → Answer (List ℕ)
to_jcal rows text = then (reading rows text) (λ c. accepted (print (jcal_of c)))
