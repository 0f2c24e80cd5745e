-- Values that are made of parts, and stand alone in their group: GEO, REQUEST-STATUS and recurrence rules.
use Rattle.std.specs.Prelude.{ℕ, Bool, true, false, List, map, ltb, length}
use Prim.Native.Char.{code}
use Rattle.octets.specs.Basics.{◌and◌, all}
use Rattle.octets.specs.Pieces.{joined}
use Rattle.json_text.specs.Tree.{Json, elements}
use Rattle.values.specs.Sorts.{Sort, plain, binary, boolean, date, date_time, duration, float, geo, integer, period, recur, text, status, time, utc_offset}
use Rattle.values.specs.Write.{is_array, value_is, value_text}

-- any other sort, whose values are strings, numbers, booleans or periods
unfoldable pub simple : Sort → Bool
simple plain = true
simple binary = true
simple boolean = true
simple date = true
simple date_time = true
simple duration = true
simple float = true
simple geo = false
simple integer = true
simple period = true
simple recur = false
simple text = true
simple status = false
simple time = true
simple utc_offset = true

-- an array of two or more, but fewer than `limit`, with semicolons between them
unfoldable pub parts_are : ℕ → Sort → Json → Bool
parts_are limit s j = is_array (λ vs. ltb 1 (length vs) and ltb (length vs) limit and all (value_is s) vs) j

unfoldable pub fields_text : Sort → Json → List ℕ
fields_text s j = joined (code ";") (map (value_text s) (elements j))
