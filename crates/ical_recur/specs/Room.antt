-- Lent memory as long as the tape, in which the text of a recurrence object has room.
use Rattle.std.specs.Prelude.{ℕ, Bool, List, leb, length}

unfoldable pub has_room : List ℕ → List ℕ → Bool
has_room t s = leb (length t) (length s)
