-- `jcal::components::place_component` meets its contract: sub-components by the same rule. The measure is the levels left.
use mathlib.Core.Path.{refl, ◌∙◌}
use native.Mathlib.Omega.{arith}
use Rattle.std.proofs.lemmas.Result.{err_from_is_err_and}
use Rattle.jcal.proofs.Subcomponents.{going_start, sub-ready, sub-few, left-some, sub-less, sub-tested, sub-goes, sub-ends}
use Rattle.jcal.proofs.components.+place_component.Goals as goal

pub open_component-a-requires : goal.open_component-a-requires
open_component-a-requires t c = c.requires.named

pub overflow_add-e : goal.overflow_add-e
overflow_add-e t c = omega (arith, c.requires.named.high)

pub place_properties-requires : goal.place_properties-requires
place_properties-requires t c = c.requires.lines_value

pub loop-next-init : goal.loop-next-init
loop-next-init t c = (refl, going_start _ _ _ _ _ _ _ _ _ _ _ c.in_ok-next.ensures c.requires.lines_value c.requires.lines_bound)

pub overflow_sub-left : goal.overflow_sub-left
overflow_sub-left t c = left-some _ _ _ _ _ _ _ _ _ _ _ _ _ (rw c.in-Sub.is at c.loop-next.invariant.1)

pub place_component-requires : goal.place_component-requires
place_component-requires t c = let g = rw c.in-Sub.is at c.loop-next.invariant.1 in
    (omega (arith, c.decreases, left-some _ _ _ _ _ _ _ _ _ _ _ _ _ g), (g.0, (sub-ready _ _ _ _ _ _ _ _ _ _ _ _ _ g, sub-few _ _ _ _ _ _ _ _ _ _ _ _ _ g)))

pub loop-next-smaller : goal.loop-next-smaller
loop-next-smaller t c = let g = rw c.in-Sub.is at c.loop-next.invariant.1 in
    rw c.in-Sub.is (sub-less _ _ _ _ _ _ _ _ _ _ _ _ _ g _ _ _ c.in_ok-next-in-Sub.ensures)

pub loop-next-preserved : goal.loop-next-preserved
loop-next-preserved t c = let g = rw c.in-Sub.is at c.loop-next.invariant.1 in
    (omega (arith, c.loop-next.invariant.0, c.put_comma-item.auto.out, c.place_component.auto.out), sub-goes _ _ _ _ _ _ _ _ _ _ _ _ _ g _ _ _ c.put_comma-item.ensures c.in_ok-next-in-Sub.ensures)

pub returns-in-Close : goal.returns-in-Close
returns-in-Close t c = sub-ends _ _ _ _ _ _ _ _ _ _ _ _ (rw c.in-Close.is at c.loop-next.invariant.1) _ _ _ c.open_component-a.ensures c.in_ok-next.ensures _ _ c.put_all-end.ensures _ c.next_at.ensures

pub returns-in_err-next : goal.returns-in_err-next
returns-in_err-next t c = let p = err_from_is_err_and c.from_residual.result c.from_residual.ensures.1 in rw (p.1, p.2) c.in_err-next.ensures

pub returns-in_err-next-in-Sub : goal.returns-in_err-next-in-Sub
returns-in_err-next-in-Sub t c = let p = err_from_is_err_and c.from_residual-in_err-next-in-Sub.result c.from_residual-in_err-next-in-Sub.ensures.1 in let g = rw c.in-Sub.is at c.loop-next.invariant.1 in
    rw (p.1, p.2) (sub-tested _ _ _ _ _ _ _ _ _ _ _ _ _ g ∙ c.in_err-next-in-Sub.ensures)
