-- Writing into a lent buffer, saturating: a write past the end only moves the place to one past the length.
use Rattle.std.specs.Prelude.{ℕ, ◌+◌, ◌≡◌, List, [], ◌∷◌, ltb, length, set, take}
use Rattle.octets.specs.Basics.{pick}

-- a buffer, and the place of the next octet in it
pub record Pen : Type 0 where
  pub buf : List ℕ
  pub at : ℕ

abbrev pub pen : List ℕ → ℕ → Pen
pen b a = record { buf = b; at = a }

unfoldable pub wrote_one : Pen → ℕ → Pen
wrote_one p x = pick (ltb p.at (length p.buf)) (pen (set p.buf p.at x) (p.at + 1)) (pen p.buf (length p.buf + 1))

unfoldable pub wrote : Pen → List ℕ → Pen
wrote p [] = p
wrote p (x ∷ xs) = wrote (wrote_one p x) xs

-- q is p with xs written
pub record Wrote (p : Pen) (xs : List ℕ) (q : Pen) : Type 0 where
  pub is : q ≡ wrote p xs

-- What stands in front of the pen is as it was, and the buffer is as long. What stands from the pen on is not told: where a writer refuses, that is its choice.
pub record FrontKept (p : Pen) (out : List ℕ) : Type 0 where
  pub long : length out ≡ length p.buf
  pub front : take p.at out ≡ take p.at p.buf
