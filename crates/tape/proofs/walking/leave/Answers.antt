-- `tape::walking::leave` meets its contract. The loop's invariant: behind as many groups as ends are due lies what lies behind the group at `at`.
use Prim.Native.Nat.{◌+◌, ◌<◌, ◌≤◌}
use lib.ListN.{get_or}
use mathlib.Core.Path.{sym, ◌∙◌}
use mathlib.Core.Logic.{◌⊎◌, inl, inr}
use native.Mathlib.Omega.{arith}
use Rattle.json_text.specs.Tape.{tag_array}
use Rattle.tape.proofs.Tags.{read-tag, end-pop}
use Rattle.tape.proofs.Walks.{one_of, none_of, pops-one, leave-past, leave-end, leave-group, leave-next}
use Rattle.tape.proofs.walking.leave.Goals as goal
use Rattle.tape.proofs.walking.leave.Goals.{in_default-via-then-b-lt5, in_default-via-else-b-lt5+else-b-lt7}

pub loop-i-init : goal.loop-i-init
loop-i-init c = (omega arith, omega arith, omega arith, pops-one _)

pub returns-then-ends-eq1 : goal.returns-then-ends-eq1
returns-then-ends-eq1 c = let h = c.loop-i-test.true in
    record {
      is = sym (end-pop c.args.t.now c.loop-i.i (sym (read-tag _ _ h) ∙ c.in-255.is)) ∙ sym (pops-one _) ∙ (rw c.if-ends-eq1.true at c.loop-i.invariant.3);
      low = λ _. omega arith;
      high = omega arith;
    }

pub loop-i-preserved-in-255 : goal.loop-i-preserved-in-255
loop-i-preserved-in-255 c = let h = c.loop-i-test.true in
    let l = c.loop-i in
    (omega arith, omega arith, omega arith, sym (leave-end _ l.i l.ends l.invariant.0 (sym (read-tag _ _ h) ∙ c.in-255.is)) ∙ l.invariant.3)

pub loop-i-preserved-then-b-lt7 : goal.loop-i-preserved-then-b-lt7
loop-i-preserved-then-b-lt7 c = let h = c.loop-i-test.true in
    let l = c.loop-i in
    let o = rw (read-tag _ _ h) at (one_of {b = (get_or c.args.t.now c.loop-i.i 0)} tag_array (omega arith) (omega arith)) in
    (omega arith, omega arith, omega arith, sym (leave-group _ l.i l.ends l.invariant.0 o) ∙ l.invariant.3)

pub past_leaf-i-requires : goal.past_leaf-i-requires
past_leaf-i-requires c = let h = c.loop-i-test.true in
    let o : ((get_or c.args.t.now c.loop-i.i 0) < tag_array) ⊎ (tag_array + 2 ≤ (get_or c.args.t.now c.loop-i.i 0)) = elim c.in_default.branch [ in_default-via-then-b-lt5 w ↦ inl (omega arith) | in_default-via-else-b-lt5+else-b-lt7 w ↦ inr (omega arith) ] in
    let n = rw (read-tag _ _ h) at (none_of tag_array o) in
    record { inside = h; no_end = λ e. omega (arith, read-tag _ _ h, e); no-array = λ e. n (inl e); no-object = λ e. n (inr e) }

pub loop-i-smaller : goal.loop-i-smaller
loop-i-smaller c = let x = c.past_leaf-i.ensures in
    omega (arith, x.more (λ e. omega (arith, read-tag _ _ c.loop-i-test.true, e)))

pub loop-i-preserved : goal.loop-i-preserved
loop-i-preserved c = let x = c.past_leaf-i.ensures in
    let l = c.loop-i in
    let m = x.low (omega arith) in
    (omega arith, omega arith, omega arith, sym (leave-next _ l.i l.ends l.invariant.0 _ x) ∙ l.invariant.3)

pub returns : goal.returns
returns c = let l = c.loop-i in
    record { is = leave-past _ l.i l.ends c.loop-i-test.false ∙ l.invariant.3; low = λ a. a; high = omega arith }
