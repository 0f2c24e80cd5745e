-- `tape::walking::behind` meets its contract.
use Prim.Native.Nat.{◌+◌, ◌<◌, ◌≤◌}
use mathlib.Core.Path.{sym, ◌∙◌}
use mathlib.Core.Logic.{◌⊎◌, inl, inr}
use native.Mathlib.Omega.{arith}
use Rattle.json_text.specs.Tape.{tag_array}
use Rattle.tape.proofs.Walks.{one_of, none_of, next_past, next-end, next-group}
use Rattle.tape.proofs.walking.behind.Goals as goal
use Rattle.tape.proofs.walking.behind.Goals.{in_default-via-then-b-lt5, in_default-via-else-b-lt5+else-b-lt7}

pub returns-then-at-t : goal.returns-then-at-t
returns-then-at-t c = next_past _ _ c.if-at-t.true

pub past_leaf-requires : goal.past_leaf-requires
past_leaf-requires c = let b = c.tag-b.ensures in
    let o : (c.tag-b.result < tag_array) ⊎ (tag_array + 2 ≤ c.tag-b.result) = elim c.in_default.branch [ in_default-via-then-b-lt5 w ↦ inl (omega arith) | in_default-via-else-b-lt5+else-b-lt7 w ↦ inr (omega arith) ] in
    let n = rw b at (none_of tag_array o) in
    record { inside = c.if-at-t.false; no_end = λ e. omega (arith, b, e); no-array = λ e. n (inl e); no-object = λ e. n (inr e) }

pub returns-in-255 : goal.returns-in-255
returns-in-255 c = next-end _ _ (sym c.tag-b.ensures ∙ c.in-255.is) (omega arith)

pub returns-in-5 : goal.returns-in-5
returns-in-5 c = next-group _ _ _ (rw c.tag-b.ensures at (one_of {b = c.tag-b.result} tag_array (omega arith) (omega arith))) c.leave.ensures
