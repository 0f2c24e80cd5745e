-- `tape::walking::text_at` meets its contract.
use Prim.Native.Nat.{◌+◌, ◌<◌, ◌≤◌}
use mathlib.Core.Logic.{◌⊎◌, inl, inr}
use native.Mathlib.Omega.{arith}
use Rattle.json_text.specs.Tape.{tag_number}
use Rattle.tape.proofs.Walks.{Begins, one_of, none_of, begins-in, text-found, text-missing}
use Rattle.tape.proofs.walking.text_at.Tie as tie
use Rattle.tape.proofs.walking.text_at.Lts as lts
use Rattle.tape.proofs.walking.text_at.Reads as reads
use Rattle.tape.proofs.walking.text_at.Goals as goal
use Rattle.tape.proofs.walking.text_at.Goals.{in_default-via-then-b-lt3, in_default-via-else-b-lt3+else-b-lt5}

begins : (c : lts.Past-Then2 tie.the-claims reads.Pre reads.Post) → Begins c.args.t.now c.args.at
begins c = rw c.tag-b.ensures at (one_of {b = c.tag-b.result} tag_number (omega arith) (omega arith))

pub overflow_add-at : goal.overflow_add-at
overflow_add-at c = omega (arith, begins-in _ _ (begins c.before))

pub text_end-e-requires : goal.text_end-e-requires
text_end-e-requires c = omega (arith, begins-in _ _ (begins c.before))

pub returns-in-3 : goal.returns-in-3
returns-in-3 c = text-found _ _ (begins c.before.before.before) c.text_end-e.ensures c.after-n.ensures

pub returns-in_default : goal.returns-in_default
returns-in_default c =
    let o : (c.tag-b.result < tag_number) ⊎ (tag_number + 2 ≤ c.tag-b.result) = elim c.in_default.branch [ in_default-via-then-b-lt3 w ↦ inl (omega arith) | in_default-via-else-b-lt3+else-b-lt5 w ↦ inr (omega arith) ] in
    text-missing _ _ (rw c.tag-b.ensures at (none_of tag_number o)) c.behind-n.ensures
