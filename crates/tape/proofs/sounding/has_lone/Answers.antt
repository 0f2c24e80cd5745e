-- `tape::sounding::has_lone` meets its contract.
use mathlib.Core.Path.{◌≡◌}
use mathlib.Core.Bool.{false}
use native.Mathlib.Omega.{arith}
use borrow.Author.Tests.{ne_eqb, le-leb, lt-leb}
use lib.Dec.{eqb, leb}
use lib.ListN.{get_or, drop_of_length-le}
use Rattle.octets.specs.Basics.{◌and◌}
use Rattle.octets.proofs.Cases.{and-false-right}
use Rattle.octets.proofs.Positions.{here}
use Rattle.tape.specs.Sound.{has_lone}
use Rattle.tape.proofs.sounding.has_lone.Goals as goal
use Rattle.tape.proofs.sounding.has_lone.Goals.{else-b-ge160-via-then-b-ge160+else-p, else-b-ge160-via-else-b-ge160}

pub returns-then-p : goal.returns-then-p
unfolding has_lone
returns-then-p c = rw (here c.args.s.now c.loop-b.b-index c.loop-b-test.true, c.if-p.true, le-leb 160 (get_or c.args.s.now c.loop-b.b-index 0) (omega (arith, c.if-b-ge160.true))) at c.loop-b.invariant

pub loop-b-preserved : goal.loop-b-preserved
unfolding has_lone
loop-b-preserved c =
    let b = get_or c.args.s.now c.loop-b.b-index 0 in
    let n : (eqb c.loop-b.p 237 and leb 160 b) ≡ false = elim c.else-b-ge160.branch [
      | else-b-ge160-via-then-b-ge160+else-p w ↦ rw (ne_eqb c.loop-b.p 237 w.if-p.false)
      | else-b-ge160-via-else-b-ge160 w ↦ rw (lt-leb 160 b (omega (arith, w.if-b-ge160.false))) (and-false-right (eqb c.loop-b.p 237))
    ] in
    rw (here c.args.s.now c.loop-b.b-index c.loop-b-test.true, n) at c.loop-b.invariant

pub returns : goal.returns
unfolding has_lone
returns c = rw (drop_of_length-le c.args.s.now {i = c.loop-b.b-index} c.loop-b-test.false) at c.loop-b.invariant
