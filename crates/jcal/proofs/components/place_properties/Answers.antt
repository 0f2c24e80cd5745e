-- `jcal::components::place_properties` meets its contract.
use mathlib.Core.Path.{refl}
use native.Mathlib.Omega.{arith}
use Rattle.std.proofs.lemmas.Result.{err_from_is_err_and}
use Rattle.jcal.proofs.LineKinds.{given_none, told-as, line-is}
use Rattle.jcal.proofs.Properties.{held_start, held-item, held-refused, held-sub, held-over, ends_next, held-ends, held-broken, none-next, held_none}
use Rattle.jcal.proofs.components.place_properties.Goals as goal

pub loop-line-init : goal.loop-line-init
loop-line-init c = (refl, refl, omega arith, held_start _ _ _ _ c.requires)

pub slice_bounds-text-count : goal.slice_bounds-text-count
slice_bounds-text-count c = let g = rw c.loop-line.invariant.0 at c.in-Some.ensures.steps in omega (arith, g.begins, g.is.ends)

pub slice_bounds-text-start : goal.slice_bounds-text-start
slice_bounds-text-start c = let g = rw c.loop-line.invariant.0 at c.in-Some.ensures.steps in omega (arith, g.begins, g.is.ends)

pub slice_bounds-text-end : goal.slice_bounds-text-end
slice_bounds-text-end c = let g = rw c.loop-line.invariant.0 at c.in-Some.ensures.steps in omega (arith, g.is.high)

pub loop-line-smaller-in-Plain : goal.loop-line-smaller-in-Plain
loop-line-smaller-in-Plain c = let g = rw c.loop-line.invariant.0 at c.in-Some.ensures.steps in omega (arith, g.on, g.is.within, g.is.ends)

pub loop-line-preserved-in-Plain : goal.loop-line-preserved-in-Plain
loop-line-preserved-in-Plain c = let inv = c.loop-line.invariant in let g = rw inv.0 at c.in-Some.ensures.steps in
    (g.same, omega (arith, c.place_item.auto.out, inv.1), omega (arith, inv.2, g.on, g.is.ends), rw g.on (held-item _ _ c.args.from _ _ _ _ _ _ inv.3 _ g.is (told-as g.tells c.in-Plain.is) _ (rw (g.begins, line-is _ _ _ g.is) at c.in_ok-to-in-Plain.ensures)))

pub returns-in_err-to-in-Plain : goal.returns-in_err-to-in-Plain
returns-in_err-to-in-Plain c = let p = err_from_is_err_and c.from_residual.result c.from_residual.ensures.1 in
    let inv = c.loop-line.invariant in let g = rw inv.0 at c.in-Some.ensures.steps in
    rw (p.1, p.2) (held-refused _ _ c.args.from _ _ _ _ _ _ inv.3 _ g.is (told-as g.tells c.in-Plain.is) _ (rw (g.begins, line-is _ _ _ g.is) at c.in_err-to-in-Plain.ensures))

pub returns-then-calendar : goal.returns-then-calendar
returns-then-calendar c = let inv = c.loop-line.invariant in let g = rw inv.0 at c.in-Some.ensures.steps in
    held-sub _ _ _ _ _ _ _ _ _ inv.3 _ g.is _ (told-as g.tells c.in-Opens.is) c.if-calendar.true inv.2 _ _ c.put_all.ensures

pub loop-line-smaller-in-Opens : goal.loop-line-smaller-in-Opens
loop-line-smaller-in-Opens c = let g = rw c.loop-line.invariant.0 at c.in-Some.ensures.steps in omega (arith, g.on, g.is.within, g.is.ends, c.behind_end.ensures.further)

pub loop-line-preserved-in-Opens : goal.loop-line-preserved-in-Opens
loop-line-preserved-in-Opens c = let inv = c.loop-line.invariant in let g = rw inv.0 at c.in-Some.ensures.steps in
    let b = rw g.on at c.behind_end.ensures in
    (g.same, inv.1, omega (arith, inv.2, g.is.ends, b.further), held-over _ _ c.args.from _ _ _ _ _ _ inv.3 _ g.is _ (told-as g.tells c.in-Opens.is) c.if-calendar.false _ b)

pub end_properties-requires : goal.end_properties-requires
end_properties-requires c = let inv = c.loop-line.invariant in let g = rw inv.0 at c.in-Some.ensures.steps in
    λ o. rw g.on (ends_next _ _ _ _ _ _ _ _ _ inv.3 _ g.is _ (told-as g.tells c.in-Closes.is) o inv.2)

pub returns-in-Closes : goal.returns-in-Closes
returns-in-Closes c = let inv = c.loop-line.invariant in let g = rw inv.0 at c.in-Some.ensures.steps in
    held-ends _ _ _ _ _ _ _ _ _ inv.3 _ g.is _ (told-as g.tells c.in-Closes.is) _ c.end_properties.result c.end_properties.ensures.finds c.end_properties.ensures.wrote

pub loop-line-smaller : goal.loop-line-smaller
loop-line-smaller c = let g = rw c.loop-line.invariant.0 at c.in-Some.ensures.steps in omega (arith, g.on, g.is.within, g.is.ends)

pub loop-line-preserved : goal.loop-line-preserved
loop-line-preserved c = let inv = c.loop-line.invariant in let g = rw inv.0 at c.in-Some.ensures.steps in
    (g.same, inv.1, omega (arith, inv.2, g.on, g.is.ends), rw g.on (held-broken _ _ c.args.from _ _ _ _ _ _ inv.3 _ g.is (told-as g.tells c.in-Broken.is)))

pub end_properties-requires-2 : goal.end_properties-requires-2
end_properties-requires-2 c = let inv = c.loop-line.invariant in let g = rw inv.0 at (given_none c.next.result c.next.ensures.steps c.in_default.not-Some) in
    λ o. rw g.on (none-next _ _ _ _ _ _ _ _ _ inv.3 g.past o inv.2)

pub returns : goal.returns
returns c = let inv = c.loop-line.invariant in let g = rw inv.0 at (given_none c.next.result c.next.ensures.steps c.in_default.not-Some) in
    held_none _ _ _ _ _ _ _ _ _ inv.3 g.past _ c.end_properties-2.result c.end_properties-2.ensures.finds c.end_properties-2.ensures.wrote
