-- `jcal_texts::put_between` meets its contract.
use Prim.Native.Nat.{◌<◌}
use mathlib.Core.Path.{refl}
use native.Mathlib.Omega.{arith}
use lib.ListN.{length}
use Rattle.octets.specs.Pen.{pen}
use Rattle.jcal_texts.proofs.TextRuns.{Walked, walked_start, walked-run, walked-octet, walked_next, walked_end, walked-wrong}
use Rattle.jcal_texts.proofs.put_between.Tie as tie
use Rattle.jcal_texts.proofs.put_between.Lts as lts
use Rattle.jcal_texts.proofs.put_between.Reads as reads
use Rattle.jcal_texts.proofs.put_between.Goals as goal

-- the run is passed and written
passed : (c : lts.After-slice_known2 tie.the-claims reads.Pre reads.Post goal.the-invariant-loop-out goal.the-decreases-loop-out tie.handed_clauses) → Walked c.args.sep c.args.other c.args.s.now (pen c.args.out.now c.args.at) (pen c.put_all-q.new.out c.put_all-q.result) c.loop-out.n c.past_run-e.result
passed c = walked-run _ _ _ c.loop-out.invariant.3 c.requires.0 c.requires.1 c.past_run-e.ensures c.put_all-q.ensures

-- an octet stands behind the run
inside : (c : lts.Else1 tie.the-claims reads.Pre reads.Post goal.the-invariant-loop-out goal.the-decreases-loop-out tie.handed_clauses) → c.past_run-e.result < length c.args.s.now
inside c = omega (arith, c.past_run-e.ensures.below, c.if-e-s.false)

pub loop-out-init : goal.loop-out-init
loop-out-init c = (omega arith, omega arith, refl, walked_start _ _ _)

pub returns-then-e-s : goal.returns-then-e-s
returns-then-e-s c = walked_end _ _ _ (passed c.before.before.before.before.before.before) _ _ (omega (arith, c.if-e-s.true)) c.put.ensures

pub step_at-requires : goal.step_at-requires
step_at-requires c = inside c.before

pub loop-out-smaller-in-Octet : goal.loop-out-smaller-in-Octet
loop-out-smaller-in-Octet c = let o = rw c.in-Octet.is at c.in_ok-c.ensures in omega (arith, o.0, o.1, c.past_run-e.ensures.above)

pub loop-out-preserved-in-Octet : goal.loop-out-preserved-in-Octet
loop-out-preserved-in-Octet c = let o = rw c.in-Octet.is at c.in_ok-c.ensures in
    (o.1, omega (arith, c.past_run-e.ensures.above), omega arith, walked-octet _ _ _ (passed c.before.before.before.before.before.before.before.before.before.before) _ _ o c.put_escaped-p.ensures)

pub loop-out-smaller : goal.loop-out-smaller
loop-out-smaller c = omega (arith, inside c.before.before.before.before.before.before.before.before.before.before.before, c.past_run-e.ensures.above)

pub loop-out-preserved : goal.loop-out-preserved
loop-out-preserved c = (omega (arith, inside c.before.before.before.before.before.before.before.before.before.before.before), omega (arith, c.past_run-e.ensures.above), omega arith, walked_next _ _ _ (passed c.before.before.before.before.before.before.before.before.before.before.before.before) (rw c.in-Separator.is at c.in_ok-c.ensures) c.put_all-p.ensures)

pub returns-in_err-c : goal.returns-in_err-c
returns-in_err-c c = rw c.from_residual.ensures (walked-wrong _ _ _ (passed c.before.before.before.before.before.before) c.in_err-c.ensures)
