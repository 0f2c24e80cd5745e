-- The components that are open at a line, by the places of their names: how the code holds what `Nest` is.
use Rattle.std.specs.Prelude.{ℕ, zero, suc, ◌<◌, ◌≡◌, Bool, List, [], ◌∷◌, get_or, Ok, Err}
use Rattle.std.specs.declared.result.Result.{Result}
use Rattle.octets.specs.Limits.{most_levels}
use Rattle.octets.specs.Answers.{answered, number}
use Rattle.octets.specs.declared.Refusal.{Refusal}
use Rattle.conversion_theory.specs.Structure.{Nest, fresh, closed, inside, fault, nest, verdict}
use Rattle.jcal.specs.Events.{name_from, line_told}
use Rattle.jcal.specs.declared.events.LineKind.{LineKind}
use Rattle.jcal.specs.declared.nesting.Nesting.{Nesting}
use Rattle.jcal.specs.declared.nesting.Nesting.TheVariants.{Unbegun, Within, Complete}

-- the names at the first d places, the last one first
unfoldable pub stack : List ℕ → List ℕ → ℕ → List (List ℕ)
stack s xs zero = []
stack s xs (suc d) = name_from s (get_or xs d 0) ∷ stack s xs d

-- the innermost component, with d around it
unfoldable pub inner : List ℕ → List ℕ → ℕ → Nest
inner s xs d = inside (name_from s (get_or xs d 0)) (stack s xs d)

unfoldable pub nest_of : List ℕ → List ℕ → Nesting → Nest
nest_of s xs Unbegun = fresh
nest_of s xs (Within d) = inner s xs d
nest_of s xs Complete = closed

-- how many components lie around the innermost one
abbrev pub around_of : Nesting → ℕ
around_of Unbegun = 0
around_of (Within d) = d
around_of Complete = 0

pub record Nests (s xs : List ℕ) (n : Nest) (t : Nesting) : Type 0 where
  pub is : nest_of s xs t ≡ n
  pub few : around_of t < most_levels

-- by what is answered behind a line: what is told of is n, or n is that fault
abbrev pub NestsBy : List ℕ → List ℕ → Nest → Result Nesting Refusal → Type 0
NestsBy s xs n (Ok t) = Nests s xs n t
NestsBy s xs n (Err r) = fault (number r) ≡ n

-- behind a line that is told of, wherever it begins
abbrev pub NestsBehind : List ℕ → List ℕ → Nest → LineKind → Result Nesting Refusal → Type 0
NestsBehind s xs n k r = (i : ℕ) → NestsBy s xs (nest n (line_told s i k)) r

-- the answer behind the last line: whether the lines are in order, or a refusal
abbrev pub Judged : Nesting → Bool → Result Bool Refusal → Type 0
Judged t b r = (s xs : List ℕ) → answered r ≡ verdict (nest_of s xs t) b
