-- Added rows: the content of rows.hex (01, Which type, and number 2), and when a newer file keeps the rows of an older one (01, How much each answer fixes).
use Rattle.std.specs.Prelude.{ℕ, ◌+◌, ◌*◌, Bool, not, eqb, leb, length}
use Prim.Native.Char.{code}
use mathlib.Core.List.{List, [], ◌∷◌, ◌++◌, Memᴰ}
use Rattle.std.proofs.Math.Option.{Option, none, some}
use Rattle.octets.specs.Basics.{octets, ◌and◌, ◌or◌, all, filled, same, twice}
use Rattle.octets.specs.Pieces.{split}
use Rattle.octets.specs.Optional.{map?, both?, then?, when, guard, each}
use Rattle.octets.specs.Classes.{between, is_upper, is_digit, hex_digit}
use Rattle.octets.specs.Limits.{most_rows}
use Rattle.octets.specs.Answers.{Answer, or_else}
use Rattle.types.specs.Codes.{binary, utc_offset, type_splits}
use Rattle.types.specs.Table.{Entry, entry, Table, names_of, defaults}

-- two hexadecimal digits, of either case
unfoldable pub octet_of : ℕ → ℕ → Option ℕ
octet_of h l = when (leb (hex_digit h) 15 and leb (hex_digit l) 15) (hex_digit h * 16 + hex_digit l)

-- the octets of a line in hexadecimal
unfoldable pub frame_of : List ℕ → Option (List ℕ)
frame_of [] = some []
frame_of (h ∷ []) = none
frame_of (h ∷ l ∷ s) = both? ◌∷◌ (octet_of h l) (frame_of s)

-- uppercase letters, digits, hyphen
unfoldable pub row_octet : ℕ → Bool
row_octet c = is_upper c or is_digit c or eqb c (code "-")

-- octets of a name
abbrev pub most_name : ℕ
most_name = 32

-- one of the fourteen codes; 0 for one value, or 1 for many of a type that splits; 1 to 32 name octets; neither BEGIN nor END
unfoldable pub is_row : ℕ → ℕ → List ℕ → Bool
is_row c m n =
    between binary utc_offset c and (eqb m 0 or (eqb m 1 and type_splits c)) and between 1 most_name (length n) and all row_octet n
    and not (same n (octets "BEGIN") or same n (octets "END"))

-- a frame: type code, one or many, name
unfoldable pub entry_of : List ℕ → Option Entry
entry_of [] = none
entry_of (c ∷ []) = none
entry_of (c ∷ m ∷ n) = when (is_row c m n) (entry n c (eqb m 1))

unfoldable pub row_of : List ℕ → Option Entry
row_of l = then? (frame_of l) entry_of

-- all pieces but the last, which is empty where each line is ended
unfoldable pub ended_lines : List (List ℕ) → Option (List (List ℕ))
ended_lines [] = none
ended_lines (l ∷ []) = when (not (filled l)) []
ended_lines (l ∷ k ∷ ls) = map? (λ ms. l ∷ ms) (ended_lines (k ∷ ls))

-- the rows of a file; no octets are no rows
unfoldable pub rows_of : List ℕ → Option Table
rows_of rows = then? (ended_lines (split (code "\n") rows)) (each row_of)

-- no more rows than the limit, and no name listed twice, the default ones included
unfoldable pub may_join : Table → Bool
may_join es = leb (length es) most_rows and not (twice (names_of (defaults ++ es)))

-- the table of a file: the default types and its rows; well-formed, unless it is refused
unfoldable pub table_of : List ℕ → Answer Table
table_of rows = or_else 2 (map? (λ es. defaults ++ es) (guard may_join (rows_of rows)))

-- the newer table keeps each row of the older: name, type, one or many, in any order of rows
abbrev pub Keeps : Table → Table → Type 0
Keeps older newer = (e : Entry) → Memᴰ e older → Memᴰ e newer
