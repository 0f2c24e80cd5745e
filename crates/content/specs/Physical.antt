-- The physical lines of a text that is written (01, Lines): each ends in CRLF and holds at most 75 octets before it, the space of its fold among them.
-- Each is UTF-8 by itself, so that no fold stands inside a character, and has no control character but tab, so that there is one way to cut the text.
use Rattle.std.specs.Prelude.{ℕ, ◌≤◌, ◌≡◌, true, List, [], ◌∷◌, ◌++◌, length}
use Rattle.octets.specs.Basics.{octets, All}
use Rattle.octets.specs.Limits.{most_columns}
use Rattle.octets.specs.Utf8.{clean}

-- lines, each ended by CRLF
unfoldable pub ended_text : List (List ℕ) → List ℕ
ended_text [] = []
ended_text (l ∷ ls) = l ++ (octets "\r\n" ++ ended_text ls)

pub record PhysicalLine (l : List ℕ) : Type 0 where
  pub short : length l ≤ most_columns
  pub whole : clean l ≡ true

-- a text that is physical lines
pub record Physical (t : List ℕ) : Type 0 where
  pub lines : List (List ℕ)
  pub text : t ≡ ended_text lines
  pub each : All PhysicalLine lines
