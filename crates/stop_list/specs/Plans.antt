-- What a start and a rule come to, as the code has it: a run of stops, or why they are refused.
use Rattle.std.specs.Prelude.{ℕ, ◌≡◌, ◌≤◌, List, Ok, Err}
use Rattle.std.specs.declared.result.Result.{Result}
use Rattle.octets.specs.Answers.{number, Answer, refused, accepted}
use Rattle.octets.specs.declared.Refusal.{Refusal}
use Rattle.stop_list.specs.declared.Stop.{Stop}
use Rattle.stop_list.specs.declared.runs.Run.{Run}
use Rattle.stop_list.specs.Stops.{list_of}
use Rattle.stop_list.specs.Runs.{stops_of, Live}

-- the definition's answer, told by the stops of a run or by a refusal
unfoldable pub list_told : Result Run Refusal → Answer (List Stop)
list_told (Ok r) = accepted (stops_of r)
list_told (Err why) = refused (number why)

-- what a plan tells is the definition's answer, and its run is live and has no more room than was given
pub record Plans (start rule : List ℕ) (room : ℕ) (p : Result Run Refusal) : Type 0 where
  pub answer : list_told p ≡ list_of start rule room
  pub live : (r : Run) → p ≡ Ok r → Live r
  pub fits : (r : Run) → p ≡ Ok r → r.room ≤ room
