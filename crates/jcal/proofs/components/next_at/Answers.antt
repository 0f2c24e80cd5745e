-- `jcal::components::next_at` meets its contract.
use mathlib.Core.Path.{refl}
use native.Mathlib.Omega.{arith}
use Rattle.jcal.proofs.LineKinds.{given_none, told-as}
use Rattle.jcal.proofs.NextLines.{next-other, next-opens, next-closes, next-none}
use Rattle.jcal.proofs.components.next_at.Goals as goal

pub loop-line-init : goal.loop-line-init
loop-line-init c = (refl, omega arith, refl)

pub returns-in-Opens : goal.returns-in-Opens
returns-in-Opens c = let inv = c.loop-line.invariant in let g = rw inv.0 at c.in-Some.ensures.steps in
    record { finds = next-opens _ _ _ inv.1 inv.2 _ g.is _ (told-as g.tells c.in-Opens.is); place = refl }

pub returns-in-Closes : goal.returns-in-Closes
returns-in-Closes c = let inv = c.loop-line.invariant in let g = rw inv.0 at c.in-Some.ensures.steps in
    record { finds = rw g.on (next-closes _ _ _ inv.1 inv.2 _ g.is _ (told-as g.tells c.in-Closes.is)); place = refl }

pub loop-line-smaller : goal.loop-line-smaller
loop-line-smaller c = let g = rw c.loop-line.invariant.0 at c.in-Some.ensures.steps in omega (arith, g.on, g.is.within, g.is.ends)

pub loop-line-preserved : goal.loop-line-preserved
loop-line-preserved c = let inv = c.loop-line.invariant in let g = rw inv.0 at c.in-Some.ensures.steps in
    (g.same, omega (arith, inv, g.on, g.is.ends), rw g.on (next-other _ _ _ inv.1 inv.2 _ g.is _ c.in-Plain.is g.tells))

pub returns : goal.returns
returns c = let inv = c.loop-line.invariant in let g = rw inv.0 at (given_none c.next.result c.next.ensures.steps c.in_default.not-Some) in
    record { finds = rw g.on (next-none _ _ _ inv.1 inv.2 g.past); place = refl }
