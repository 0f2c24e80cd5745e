-- What is told of a recurrence object that is tested and written: where the pen stands, or that it is no rule (01, Values). Then the buffer is as
-- long and as before in front of the pen, and the code's choice behind.
use Rattle.std.specs.Prelude.{ℕ, ◌≡◌, Bool, true, false, List, Option, Some, None}
use Rattle.octets.specs.Basics.{◌and◌}
use Rattle.octets.specs.Pen.{FrontKept}
use Rattle.content.specs.Folding.{FoldPen, folding, Folded}
use Rattle.content.specs.declared.fold.Folder.{Folder}
use Rattle.tape.specs.Decode.{value_at}
use Rattle.values.specs.Sorts.{recur}
use Rattle.values.specs.Write.{value_is, value_text}

-- the rule at i is written behind f; without room for it there is none
abbrev pub RuledAs : Bool → List ℕ → ℕ → FoldPen → List ℕ → Option Folder → Type 0
RuledAs room t i f out (Some q) = ((room and value_is recur (value_at t i)) ≡ true) × Folded f (value_text recur (value_at t i)) (folding out q)
RuledAs room t i f out None = ((room and value_is recur (value_at t i)) ≡ false) × FrontKept f.pen out
