-- `octets::run_end` meets its contract.
use mathlib.Core.Path.{refl}
use native.Mathlib.Omega.{arith}
use borrow.Author.Tests.{leb-true, leb-false}
use lib.Dec.{leb}
use lib.ListN.{length}
use Rattle.octets.proofs.Cases.{cases}
use Rattle.octets.proofs.Search.{until_none, until-here, until-on}
use Rattle.octets.proofs.searching.run_end.Invariants.{off}
use Rattle.octets.proofs.searching.run_end.Goals as goal

pub loop-i-init : goal.loop-i-init
loop-i-init c = refl

pub returns-then-not-has : goal.returns-then-not-has
returns-then-not-has c = omega (arith, c.loop-i.invariant, until-here (off c.args.class) c.args.s.now c.loop-i.i c.loop-i-test.true (rw (← c.has.ensures, c.if-not-has.true)))

pub loop-i-preserved : goal.loop-i-preserved
loop-i-preserved c = omega (arith, c.loop-i.invariant, until-on (off c.args.class) c.args.s.now c.loop-i.i c.loop-i-test.true (rw (← c.has.ensures, c.if-not-has.false)))

pub returns : goal.returns
returns c = let s = c.args.s.now in
    cases (leb c.args.at (length s))
    (λ e. let h = leb-true c.args.at (length s) e in omega (arith, c.max.ensures, c.loop-i.invariant, until_none (off c.args.class) s c.loop-i.i c.loop-i-test.false))
    (λ e. let h = leb-false c.args.at (length s) e in omega (arith, c.max.ensures, until_none (off c.args.class) s c.args.at (omega arith)))
