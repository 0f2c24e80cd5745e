-- `jcal_texts::put_tested_plain` meets its contract.
use Prim.Native.Nat.{◌<◌}
use mathlib.Core.Path.{refl, sym, ◌∙◌}
use native.Mathlib.Omega.{arith}
use lib.ListN.{length}
use Rattle.octets.specs.Pen.{pen}
use Rattle.jcal_texts.proofs.Plain.{Plainly, plainly-start, plainly-run, plainly-end, plainly-not, plainly-octet}
use Rattle.jcal_texts.proofs.put_tested_plain.Tie as tie
use Rattle.jcal_texts.proofs.put_tested_plain.Lts as lts
use Rattle.jcal_texts.proofs.put_tested_plain.Reads as reads
use Rattle.jcal_texts.proofs.put_tested_plain.Goals as goal

-- the run is passed and written
passed : (c : lts.After-slice_known3 tie.the-claims reads.Pre reads.Post goal.the-invariant-loop-out goal.the-decreases-loop-out) → Plainly c.args.s.now (pen c.put-p.new.out c.put-p.result) (pen c.put_all-q.new.out c.put_all-q.result) c.past_run-e.result
passed c = plainly-run _ c.loop-out.invariant.2 c.past_run-e.ensures c.put_all-q.ensures

-- an octet stands behind the run
inside : (c : lts.Else1 tie.the-claims reads.Pre reads.Post goal.the-invariant-loop-out goal.the-decreases-loop-out) → c.past_run-e.result < length c.args.s.now
inside c = omega (arith, c.past_run-e.ensures.below, c.if-e-s.false)

pub loop-out-init : goal.loop-out-init
loop-out-init c = (omega arith, refl, plainly-start _)

pub returns-then-e-s : goal.returns-then-e-s
returns-then-e-s c = plainly-end _ (passed c.before.before.before.before.before.before) c.put-p.ensures (omega (arith, c.if-e-s.true)) c.put.ensures

pub returns-then-not-is_plain_octet : goal.returns-then-not-is_plain_octet
returns-then-not-is_plain_octet c = plainly-not _ (passed c.before.before.before.before.before) (inside c.before.before.before.before) c.put-p.ensures (sym c.is_plain_octet.ensures ∙ c.if-not-is_plain_octet.true)

pub loop-out-preserved : goal.loop-out-preserved
loop-out-preserved c = (omega (arith, inside c.before.before.before.before.before.before.before.before), omega arith, plainly-octet _ (passed c.before.before.before.before.before.before.before.before.before) (inside c.before.before.before.before.before.before.before.before) (sym c.is_plain_octet.ensures ∙ c.if-not-is_plain_octet.false) c.put_escaped-p.ensures)
