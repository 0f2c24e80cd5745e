-- `stops_page::count_walked` meets its contract: what is counted and what is ahead stay the same.
use native.Mathlib.Nat.{sub-zero}
use native.Mathlib.Omega.{arith}
use mathlib.Core.Path.{◌∙◌}
use Rattle.stops_page.proofs.Counts.{walk-all, walk_ends, walk-on, counted}
use Rattle.stops_page.proofs.count_walked.Goals as goal

pub loop-n-init : goal.loop-n-init
loop-n-init c = (c.requires.from, rw sub-zero (omega arith))

pub returns-in_default : goal.returns-in_default
returns-in_default c = walk_ends _ _ _ _ _ c.loop-n.invariant.1 (c.in_default.ensures c.requires.founded c.loop-n.invariant.0) ∙ counted c.args.run

pub loop-n-preserved : goal.loop-n-preserved
loop-n-preserved c = let f = c.in-Some.ensures c.requires.founded c.loop-n.invariant.0 in
    ((let g = f.0.from in let h = c.loop-n.invariant.0 in omega arith), walk-on _ _ _ _ _ c.loop-n.invariant.1 _ f.0 c.loop-n-test.true f.1)

pub returns : goal.returns
returns c = walk-all c.args.run _ _ c.loop-n.invariant.1 c.loop-n-test.false c.loop-n.auto.n-end
