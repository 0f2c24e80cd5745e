-- Rows laid out as octets, as the code holds them: for each row the length of its name, its type code, 0 for one value or 1 for many, and its name.
use Rattle.std.specs.Prelude.{ℕ, zero, suc, ◌+◌, ◌*◌, List, [], ◌∷◌, ◌++◌, eqb, leb, length, get_or, take, drop, Some, None}
use Rattle.std.proofs.Math.Option.{Option, none, some}
use Rattle.octets.specs.Basics.{pick}
use Rattle.octets.specs.Optional.{map?, guard}
use Rattle.octets.specs.Limits.{most_rows}
use Rattle.octets.specs.Answers.{Answer, or_else}
use Rattle.types.specs.Table.{Row, Entry, entry, Table, defaults}
use Rattle.types.specs.Rows.{most_name, rows_of, may_join}
use Rattle.std.specs.declared.option.Option as code
use Rattle.types.specs.declared.Listing.{Listing}

unfoldable pub laid_row : Entry → List ℕ
laid_row e = length e.name ∷ e.row.code ∷ pick e.row.many 1 0 ∷ e.name

unfoldable pub laid : Table → List ℕ
laid [] = []
laid (e ∷ t) = laid_row e ++ laid t

-- the rows that any octets lay out, behind the first k; a row that is cut short ends them
unfoldable pub rows_from : ℕ → List ℕ → Table
rows_from k [] = []
rows_from zero (n ∷ s) = pick (leb (n + 2) (length s)) (entry (take n (drop 2 s)) (get_or s 0 0) (eqb (get_or s 1 0) 1) ∷ rows_from (n + 2) s) []
rows_from (suc k) (x ∷ s) = rows_from k s

unfoldable pub rows_in : List ℕ → Table
rows_in s = rows_from 0 s

-- the table that laid out rows stand for
unfoldable pub table_in : List ℕ → Table
table_in s = defaults ++ rows_in s

-- what a returned `Listing` says, if there is one
unfoldable pub row_found : code.Option Listing → Option Row
row_found None = none
row_found (Some l) = some (record { code = l.code; many = l.many })

-- the rows of a file laid out; malformed ones are refused
unfoldable pub laid_of : List ℕ → Answer (List ℕ)
laid_of hex = or_else 2 (map? laid (guard may_join (rows_of hex)))

-- octets that the rows of a file take at most, each row three and its name
unfoldable pub room_for_rows : ℕ
room_for_rows = most_rows * (3 + most_name)
