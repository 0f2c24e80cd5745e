-- `jcal::components::behind_end` meets its contract.
use mathlib.Core.Path.{refl}
use native.Mathlib.Omega.{arith}
use Rattle.jcal.proofs.LineKinds.{given_none, told-as}
use Rattle.jcal.proofs.NextLines.{over-opens, over-closes, over-end, over-other, over_none}
use Rattle.jcal.proofs.components.behind_end.Goals as goal

pub loop-line-init : goal.loop-line-init
loop-line-init c = (refl, omega arith, omega arith, refl)

pub overflow_add-within : goal.overflow_add-within
overflow_add-within c = let inv = c.loop-line.invariant in let g = rw inv.0 at c.in-Some.ensures.steps in
    omega (arith, inv, g.is.within)

pub loop-line-smaller-in-Opens : goal.loop-line-smaller-in-Opens
loop-line-smaller-in-Opens c = let g = rw c.loop-line.invariant.0 at c.in-Some.ensures.steps in omega (arith, g.on, g.is.within, g.is.ends)

pub loop-line-preserved-in-Opens : goal.loop-line-preserved-in-Opens
loop-line-preserved-in-Opens c = let inv = c.loop-line.invariant in let g = rw inv.0 at c.in-Some.ensures.steps in
    (g.same, omega (arith, inv, g.on, g.is.ends), omega (arith, inv, g.on, g.is.ends), rw g.on (over-opens _ _ _ inv.1 _ inv.3 _ g.is _ (told-as g.tells c.in-Opens.is)))

pub returns-then-within-eq0 : goal.returns-then-within-eq0
returns-then-within-eq0 c = let inv = c.loop-line.invariant in let g = rw inv.0 at c.in-Some.ensures.steps in
    rw g.on (over-end _ _ _ inv.1 _ inv.3 _ g.is _ (told-as g.tells c.in-Closes.is) c.if-within-eq0.true)

pub overflow_sub-within : goal.overflow_sub-within
overflow_sub-within c = omega arith

pub loop-line-smaller-in-Closes : goal.loop-line-smaller-in-Closes
loop-line-smaller-in-Closes c = let g = rw c.loop-line.invariant.0 at c.in-Some.ensures.steps in omega (arith, g.on, g.is.within, g.is.ends)

pub loop-line-preserved-in-Closes : goal.loop-line-preserved-in-Closes
loop-line-preserved-in-Closes c = let inv = c.loop-line.invariant in let g = rw inv.0 at c.in-Some.ensures.steps in
    (g.same, omega (arith, inv, g.on, g.is.ends), omega (arith, inv, g.on, g.is.ends), rw g.on (over-closes _ _ _ inv.1 _ inv.3 _ g.is _ (told-as g.tells c.in-Closes.is) c.if-within-eq0.false))

pub loop-line-smaller : goal.loop-line-smaller
loop-line-smaller c = let g = rw c.loop-line.invariant.0 at c.in-Some.ensures.steps in omega (arith, g.on, g.is.within, g.is.ends)

pub loop-line-preserved : goal.loop-line-preserved
loop-line-preserved c = let inv = c.loop-line.invariant in let g = rw inv.0 at c.in-Some.ensures.steps in
    (g.same, omega (arith, inv, g.on, g.is.ends), omega (arith, inv, g.on, g.is.ends), rw g.on (over-other _ _ _ inv.1 _ inv.3 _ g.is _ c.in-Plain.is g.tells))

pub returns : goal.returns
returns c = let inv = c.loop-line.invariant in let g = rw inv.0 at (given_none c.next.result c.next.ensures.steps c.in_default.not-Some) in rw g.on (over_none _ _ _ inv.1 _ inv.3 g.past)
