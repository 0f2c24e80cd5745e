-- `content::write::fold_encoded` meets its contract.
use mathlib.Core.Path.{refl}
use native.Mathlib.Omega.{arith}
use Rattle.octets.specs.Groups.{caret_free}
use Rattle.octets.specs.Search.{ClassRun}
use Rattle.octets.proofs.Runs.{run-found}
use Rattle.content.proofs.Encoded.{encoded-here, encoded-ended, encoded-run}
use Rattle.content.proofs.Folding.{leads-start, leads-on, leads-end}
use Rattle.content.proofs.write.fold_encoded.Tie as tie
use Rattle.content.proofs.write.fold_encoded.Lts as lts
use Rattle.content.proofs.write.fold_encoded.Reads as reads
use Rattle.content.proofs.write.fold_encoded.Goals as goal

-- the octets that no caret encodes
passed : (c : lts.After-plain_end tie.the-claims reads.Pre reads.Post goal.the-invariant-loop-q goal.the-decreases-loop-q) → ClassRun caret_free c.args.v.now c.loop-q.i c.plain_end-end.result
passed c = run-found _ _ _ c.loop-q.invariant.0 c.plain_end-end.ensures

pub loop-q-init : goal.loop-q-init
loop-q-init c = (omega arith, refl, leads-start)

pub slice_bounds-fold_all-end : goal.slice_bounds-fold_all-end
slice_bounds-fold_all-end c = (passed c.before.before).below

pub returns-then-end-v : goal.returns-then-end-v
returns-then-end-v c = leads-end (leads-on c.loop-q.invariant.2 c.fold_all-q.ensures (encoded-run _ (passed c.before.before.before.before.before.before.before)))
    (encoded-ended c.args.v.now c.plain_end-end.result (omega arith))

pub loop-q-preserved : goal.loop-q-preserved
loop-q-preserved c = let plain = leads-on c.loop-q.invariant.2 c.fold_all-q.ensures (encoded-run _ (passed c.before.before.before.before.before.before.before.before.before.before.before.before)) in
    let next = encoded-here c.args.v.now c.plain_end-end.result (omega arith) in
    (omega arith, omega arith, leads-on plain c.fold_encoded_octet-q.ensures next)
