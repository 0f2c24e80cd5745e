-- What the conversion of properties and components promises of its answers.
use Rattle.std.specs.Prelude.{ℕ, ◌≡◌, List, Result, Ok, Err}
use Rattle.octets.specs.Answers.{Answer, refused, accepted, then, number}
use Rattle.octets.specs.declared.Refusal.{Refusal}
use Rattle.octets.specs.Pen.{pen, Wrote, FrontKept}
use Rattle.types.specs.Table.{Table, find}
use Rattle.tape.specs.Promise.{Next}
use Rattle.content.specs.Fold.{text_of}
use Rattle.conversion_theory.specs.Tree.{Property}
use Rattle.conversion_theory.specs.Return.{checked}

-- whether one property passes under a table
unfoldable pub checked_in : Table → Property → Answer (Unit {0})
checked_in t p = then (checked (find t p.name) p) (λ _. accepted tt)

-- nothing stands against the value at i, which ends before n, and its lines are written up to q
pub record Puts (t : List ℕ) (i : ℕ) (a : Answer (Unit {0})) (out : List ℕ) (to : ℕ) (lines : List (List ℕ)) (out' : List ℕ) (n q : ℕ) : Type 0 where
  pub faultless : a ≡ accepted tt
  pub behind : Next t i n
  pub wrote : Wrote (pen out to) (text_of lines) (pen out' q)

-- the answer tells a; where it is a refusal, the buffer is as long and as before in front of the place to write at, and the code's choice behind
abbrev pub Converts : List ℕ → ℕ → Answer (Unit {0}) → List ℕ → ℕ → List (List ℕ) → List ℕ → Result (ℕ × ℕ) Refusal → Type 0
Converts t i a out to lines out' (Ok r) = Puts t i a out to lines out' r.0 r.1
Converts t i a out to lines out' (Err w) = (a ≡ refused (number w)) × FrontKept (pen out to) out'
