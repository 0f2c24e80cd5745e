-- What is told of a piece of a recurrence object that is tested and written in one walk.
use Rattle.std.specs.Prelude.{ℕ, ◌≡◌, Bool, true, false, List, Option, Some, None}
use Rattle.octets.specs.Pen.{Pen, pen, Wrote, FrontKept}

-- the piece stands, its text is written, and the place on the tape was reached; or it does not stand, and the buffer is as long and as before in front
-- of the pen, and the code's choice behind
abbrev pub LaidAs : Bool → List ℕ → Pen → List ℕ → (ℕ → Type 0) → Option (ℕ × ℕ) → Type 0
LaidAs stands text p out reached (Some r) = (stands ≡ true) × Wrote p text (pen out r.0) × reached r.1
LaidAs stands text p out reached None = (stands ≡ false) × FrontKept p out
