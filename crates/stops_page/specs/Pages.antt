-- The pieces of what is printed, as the code has them: a moment's front, the last line's number, and the lines.
use Rattle.std.specs.Prelude.{ℕ, List, ◌∷◌}
use Prim.Native.Char.{code}
use Rattle.octets.specs.Pieces.{split}
use Rattle.calendar.specs.declared.moments.Kind.{Kind}
use Rattle.calendar.specs.declared.moments.Kind.TheVariants.{Day, Local, Utc}
use Rattle.stops_page.specs.Printing.{chop, input_lines, lines_shown}

-- how many octets of a moment as it is shown in UTC are shown for a kind
unfoldable pub shown_length : Kind → ℕ
shown_length Day = 10
shown_length Local = 19
shown_length Utc = 20

-- two lines, and what stands behind them
unfoldable pub third_shown : List ℕ → List ℕ → List ℕ → List ℕ
third_shown a b s = lines_shown (chop a ∷ chop b ∷ input_lines (split (code "\n") s))
