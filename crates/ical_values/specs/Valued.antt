-- What is told of values that are tested and written: where the pen stands and where they end, or that the sort does not take them (01, Values).
-- Then the buffer is as long and as before in front of the pen, and the code's choice behind.
use Rattle.std.specs.Prelude.{ℕ, ◌≡◌, Bool, true, false, List, map, Option, Some, None}
use Rattle.octets.specs.Basics.{◌and◌, ◌or◌, all, single}
use Rattle.octets.specs.Pen.{FrontKept}
use Rattle.octets.specs.Pieces.{joined}
use Rattle.content.specs.Folding.{FoldPen, folding, Folded}
use Rattle.content.specs.declared.fold.Folder.{Folder}
use Rattle.json_text.specs.Tree.{Json}
use Rattle.tape.specs.Decode.{value_at, list_at}
use Rattle.tape.specs.Promise.{Next, Left}
use Rattle.values.specs.Sorts.{Sort}
use Rattle.values.specs.Write.{value_is, value_text, values_are, values_text}

-- xs is written behind f, if `stands`
abbrev pub FoldedIf : Bool → List ℕ → FoldPen → List ℕ → Option Folder → Type 0
FoldedIf stands xs f out (Some q) = (stands ≡ true) × Folded f xs (folding out q)
FoldedIf stands xs f out None = (stands ≡ false) × FrontKept f.pen out

-- the value at i, and where it ends
abbrev pub ValueAs : Sort → List ℕ → ℕ → FoldPen → List ℕ → Option (ℕ × Folder) → Type 0
ValueAs sort t i f out (Some r) = (value_is sort (value_at t i) ≡ true) × Folded f (value_text sort (value_at t i)) (folding out r.1) × Next t i r.0
ValueAs sort t i f out None = (value_is sort (value_at t i) ≡ false) × FrontKept f.pen out

-- values that all pass the test p; exactly one, but for `several`
unfoldable pub all_taken : Bool → (Json → Bool) → List Json → Bool
all_taken several p vs = (several or single vs) and all p vs

-- the values of the group at i as w writes them, with `sep` between them, and the place behind its end
abbrev pub ListedAs : ℕ → Bool → (Json → Bool) → (Json → List ℕ) → List ℕ → ℕ → FoldPen → List ℕ → Option (ℕ × Folder) → Type 0
ListedAs sep several p w t i f out (Some r) = (all_taken several p (list_at t i) ≡ true) × Folded f (joined sep (map w (list_at t i))) (folding out r.1) × Left t i r.0
ListedAs sep several p w t i f out None = (all_taken several p (list_at t i) ≡ false) × FrontKept f.pen out

-- the values of the group at i, and the place behind its end; without room for a recurrence rule none are taken
abbrev pub ValuedAs : Bool → Bool → Sort → List ℕ → ℕ → FoldPen → List ℕ → Option (ℕ × Folder) → Type 0
ValuedAs room many sort t i f out (Some r) = ((room and values_are many sort (list_at t i)) ≡ true) × Folded f (values_text sort (list_at t i)) (folding out r.1) × Left t i r.0
ValuedAs room many sort t i f out None = ((room and values_are many sort (list_at t i)) ≡ false) × FrontKept f.pen out
