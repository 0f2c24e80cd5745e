-- The text of a recurrence object, as the recurrence reader takes it.
use Rattle.std.specs.Prelude.{ℕ, zero, suc, List, [], ◌∷◌}
use Prim.Native.Char.{code}
use Rattle.octets.specs.Pieces.{joined}
use Rattle.calendar.specs.Recurrence.{PartSort}
use Rattle.json_text.specs.Tree.{Json, Items, Members}
use Rattle.values.specs.Recur.{item_texts, value_texts, member_texts}

-- the values of an array, and what a part has
abbrev pub items_text : PartSort → Items → List ℕ
items_text sort js = joined (code ",") (item_texts sort js)

abbrev pub part_values_text : PartSort → Json → List ℕ
part_values_text sort j = joined (code ",") (value_texts sort j)

abbrev pub object_text : Members → List ℕ
object_text ms = joined (code ";") (member_texts ms)

-- what is written in front of the piece at a place: a separator, but for the first
unfoldable pub mark_before : ℕ → ℕ → List ℕ
mark_before sep zero = []
mark_before sep (suc n) = sep ∷ []
