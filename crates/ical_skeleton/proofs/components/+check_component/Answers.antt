-- `ical_skeleton::components::check_component` meets its contract; the levels left fall. The loop's invariant: the sub-components so far pass.
use Prim.Native.Nat.{max}
use mathlib.Core.Path.{◌≡◌, sym, ◌∙◌}
use native.Mathlib.Omega.{arith}
use Rattle.ical_skeleton.proofs.Lists.{passing-off}
use Rattle.ical_skeleton.proofs.Depths.{no-levels, subs-not, subs-off, subs-more, subs-whole, nesting-start, nesting-next}
use Rattle.ical_skeleton.proofs.components.+check_component.Goals as goal

pub returns-then-left-eq0 : goal.returns-then-left-eq0
returns-then-left-eq0 t c = no-levels _ _ c.if-left-eq0.true

pub returns-in_err-p : goal.returns-in_err-p
returns-in_err-p t c = rw c.from_residual.ensures (c.in_err-p.ensures _)

pub returns-then-tag-ne-ARRAY : goal.returns-then-tag-ne-ARRAY
returns-then-tag-ne-ARRAY t c = subs-not c.if-left-eq0.false c.in_ok-p.ensures (λ e. c.if-tag-ne-ARRAY.true (c.tag.ensures ∙ e))

pub loop-e-init : goal.loop-e-init
loop-e-init t c = nesting-start _ c.after-i.ensures

pub returns-then-tag-2 : goal.returns-then-tag-2
returns-then-tag-2 t c = let h = c.in_ok-p.ensures in
    subs-more c.if-left-eq0.false h (sym c.tag.ensures ∙ c.if-tag-ne-ARRAY.false) c.after-i.ensures c.loop-e.invariant (sym c.tag-in-loop-e.ensures ∙ c.if-tag.true) c.after-e.ensures (λ e. c.if-tag-2.true (c.tag-then-tag.ensures ∙ e))

pub overflow_add-result : goal.overflow_add-result
overflow_add-result t c = omega (arith, c.loop-e.invariant.below)

pub returns-then-tag : goal.returns-then-tag
returns-then-tag t c = let h = c.in_ok-p.ensures in
    subs-whole c.if-left-eq0.false h (sym c.tag.ensures ∙ c.if-tag-ne-ARRAY.false) c.after-i.ensures c.loop-e.invariant (sym c.tag-in-loop-e.ensures ∙ c.if-tag.true) c.after-e.ensures (sym c.tag-then-tag.ensures ∙ c.if-tag-2.false) c.after-f.ensures

pub check_component-requires : goal.check_component-requires
check_component-requires t c = (omega arith, tt)

pub loop-e-smaller : goal.loop-e-smaller
loop-e-smaller t c = let n = c.in_ok-e.ensures.3 in
    omega (arith, n.more (λ e. c.if-tag.false (c.tag-in-loop-e.ensures ∙ e)), n.high)

pub loop-e-preserved : goal.loop-e-preserved
loop-e-preserved t c = let q : c.max-levels.result ≡ max c.in_ok-e.n c.loop-e.levels = omega arith in
    rw q (nesting-next c.loop-e.invariant (λ e. c.if-tag.false (c.tag-in-loop-e.ensures ∙ e)) c.in_ok-e.ensures)

pub returns-in_err-e : goal.returns-in_err-e
returns-in_err-e t c = let h = c.in_ok-p.ensures in
    rw c.from_residual-in_err-e.ensures (subs-off c.if-left-eq0.false h (passing-off c.loop-e.invariant.passing c.after-i.ensures (sym c.tag.ensures ∙ c.if-tag-ne-ARRAY.false) (λ e. c.if-tag.false (c.tag-in-loop-e.ensures ∙ e)) c.in_err-e.ensures))
