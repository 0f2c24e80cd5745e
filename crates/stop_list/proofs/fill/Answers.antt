-- `stop_list::fill` meets its contract: each turn stores the next stop of the run.
use native.Mathlib.Omega.{arith}
use Rattle.std.proofs.lemmas.List.{set-get_or}
use Rattle.stop_list.proofs.RunStops.{few_stops}
use Rattle.stop_list.proofs.Filling.{begins, turns, laid, laid_full}
use Rattle.stop_list.proofs.fill.Goals as goal

pub loop-i-init : goal.loop-i-init
loop-i-init c = (c.requires.0, begins _ _)

pub loop-i-preserved : goal.loop-i-preserved
loop-i-preserved c = let v = c.in-Some.ensures c.loop-i.invariant.0 in (v.0, turns _ _ _ _ _ _ c.loop-i-test.true (rw v.1 at c.loop-i.invariant.1))

pub returns-in_default : goal.returns-in_default
returns-in_default c = rw set-get_or (laid _ _ _ _ _ (c.in_default.ensures c.loop-i.invariant.0).1 c.loop-i.invariant.1)

pub returns : goal.returns
returns c = laid_full _ _ _ _ _ c.loop-i.auto.i-end c.loop-i-test.false (let w = few_stops c.args.run in let r = c.requires.1 in omega arith) c.loop-i.invariant.1
