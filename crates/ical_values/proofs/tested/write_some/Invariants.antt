-- `ical_values::tested::write_some` meets its contract.
use Rattle.ical_values.specs.Valued.{all_taken}
use Rattle.content.specs.Folding.{folding, Folded}
use Rattle.content.proofs.Folding.{Leads}
use Rattle.values.specs.Write.{value_is, value_text}
use Rattle.values.specs.Coded.{sort_said}
use Rattle.tape.proofs.Walks.{Along}
use Rattle.tape.specs.Decode.{tag_at, list_at}
use Rattle.octets.specs.Pieces.{joined}
use Rattle.json_text.specs.Tape.{tag_end}
use lib.ListN.{length}
use mathlib.Core.List.{List, map}
use mathlib.Core.Path.{◌≡◌}
use Prim.Native.Nat.{ℕ, ◌-◌}
use Rattle.ical_values.proofs.tested.write_some.Given as goal

abbrev pub invariant-loop-e : goal.invariant-loop-e
invariant-loop-e l = ((tag_at l.t l.i ≡ tag_end) → ⊥) × ((xs : List ℕ) × Folded (folding l.initial.out l.initial.q) xs (folding l.out l.q)) × Along l.t l.at l.i
    × (all_taken l.several (value_is (sort_said l.sort)) (list_at l.t l.i) ≡ all_taken l.several (value_is (sort_said l.sort)) (list_at l.t l.at))
    × Leads (folding l.initial.out l.initial.q) (joined l.sep (map (value_text (sort_said l.sort)) (list_at l.t l.at))) (folding l.out l.q) (joined l.sep (map (value_text (sort_said l.sort)) (list_at l.t l.i)))

abbrev pub decreases-loop-e : goal.decreases-loop-e
decreases-loop-e l = length l.t - l.i
