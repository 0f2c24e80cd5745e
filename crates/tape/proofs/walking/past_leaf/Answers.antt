-- `tape::walking::past_leaf` meets its contract.
use Prim.Native.Nat.{◌+◌, ◌<◌, ◌≤◌}
use mathlib.Core.Logic.{◌⊎◌, inl, inr}
use native.Mathlib.Omega.{arith}
use Rattle.json_text.specs.Tape.{tag_number}
use Rattle.tape.proofs.Walks.{one_of, none_of, next-text, next-other}
use Rattle.tape.proofs.walking.past_leaf.Goals as goal
use Rattle.tape.proofs.walking.past_leaf.Goals.{in_default-via-then-b-lt3, in_default-via-else-b-lt3+else-b-lt5}

pub returns-in-3 : goal.returns-in-3
returns-in-3 c = next-text _ _ _ (rw c.tag-b.ensures at (one_of {b = c.tag-b.result} tag_number (omega arith) (omega arith))) c.past_text.ensures

pub returns-in_default : goal.returns-in_default
returns-in_default c =
    let o : (c.tag-b.result < tag_number) ⊎ (tag_number + 2 ≤ c.tag-b.result) = elim c.in_default.branch [ in_default-via-then-b-lt3 w ↦ inl (omega arith) | in_default-via-else-b-lt3+else-b-lt5 w ↦ inr (omega arith) ] in
    next-other _ _ c.requires (rw c.tag-b.ensures at (none_of tag_number o))
