-- Lines folded (RFC 5545 3.1; 01, Lines): at most 75 octets before CRLF, folded with one space as late as possible and never inside a character.
use Rattle.std.specs.Prelude.{ℕ, suc, ◌+◌, min, Bool, List, [], ◌∷◌, ◌++◌, ltb}
use Rattle.octets.specs.Basics.{octets, pick, ◌and◌}
use Rattle.octets.specs.Limits.{most_columns}

-- the octets of the character that c begins; 0 where c begins none
unfoldable pub width : ℕ → ℕ
width c = pick (ltb c 128) 1 (pick (ltb c 192) 0 (pick (ltb c 224) 2 (pick (ltb c 240) 3 4)))

-- c begins a character that would end behind the last column
unfoldable pub breaks : ℕ → ℕ → Bool
breaks col c = ltb 0 (width c) and ltb most_columns (col + width c)

-- c as written where `col` octets stand before it in its line
unfoldable pub folded_octet : ℕ → ℕ → List ℕ
folded_octet col c = pick (breaks col c) (octets "\r\n " ++ c ∷ []) (c ∷ [])

-- the column behind it; the fold's space counts, and past the last column all columns are alike
unfoldable pub next_column : ℕ → ℕ → ℕ
next_column col c = pick (breaks col c) 2 (min (suc col) (suc most_columns))

unfoldable pub fold_from : ℕ → List ℕ → List ℕ
fold_from col [] = []
fold_from col (c ∷ s) = folded_octet col c ++ fold_from (next_column col c) s

unfoldable pub column_after : ℕ → List ℕ → ℕ
column_after col [] = col
column_after col (c ∷ s) = column_after (next_column col c) s

-- the lines as written, each ended by CRLF
unfoldable pub text_of : List (List ℕ) → List ℕ
text_of [] = []
text_of (l ∷ ls) = fold_from 0 l ++ (octets "\r\n" ++ text_of ls)
