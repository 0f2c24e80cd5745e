-- `content::scan::first_bare` meets its contract.
use mathlib.Core.Path.{sym, ◌∙◌}
use mathlib.Core.Bool.{false}
use native.Mathlib.Omega.{arith}
use lib.Dec.{eqb}
use lib.ListN.{drop, length-drop}
use borrow.Author.Tests.{ne_eqb}
use Rattle.octets.specs.Basics.{◌or◌}
use Rattle.octets.proofs.Positions.{from}
use Rattle.content.proofs.Scanning.{bare-le, bare-none, bare-here, bare-plain, above-one, above}
use Rattle.content.proofs.scan.first_bare.Goals as goal

pub loop-i-preserved-then-most-c : goal.loop-i-preserved-then-most-c
loop-i-preserved-then-most-c c = omega (arith, c.loop-i.invariant, bare-plain (λ x. eqb x c.args.a or eqb x c.args.b) c.args.s.now c.loop-i.i c.loop-i-test.true (above _ c.args.a c.args.b _ (omega (arith, c.greater.ensures, c.greater-most.ensures)) (omega (arith, c.greater.ensures, c.greater-most.ensures)) c.if-most-c.true) (above-one _ 34 _ c.greater-most.ensures.1 c.if-most-c.true))

pub returns-then-is_bare : goal.returns-then-is_bare
returns-then-is_bare c = omega (arith, bare-here (λ x. eqb x c.args.a or eqb x c.args.b) c.args.s.now c.loop-i.i false c.loop-i-test.true (sym c.is_bare.ensures ∙ c.if-is_bare.true), c.loop-i.invariant)

pub overflow_add-result : goal.overflow_add-result
overflow_add-result c = omega (arith, rw (from c.args.s.now c.loop-i.i) at c.past_quotes.ensures, bare-le (λ x. eqb x c.args.a or eqb x c.args.b) false (drop c.loop-i.i c.args.s.now), length-drop c.loop-i.i c.args.s.now)

pub returns-then-c-eq34 : goal.returns-then-c-eq34
returns-then-c-eq34 c = omega (arith, rw (from c.args.s.now c.loop-i.i) at c.past_quotes.ensures, c.loop-i.invariant)

pub loop-i-preserved : goal.loop-i-preserved
loop-i-preserved c = omega (arith, c.loop-i.invariant, bare-plain (λ x. eqb x c.args.a or eqb x c.args.b) c.args.s.now c.loop-i.i c.loop-i-test.true (sym c.is_bare.ensures ∙ c.if-is_bare.false) (ne_eqb _ 34 c.if-c-eq34.false))

pub returns : goal.returns
returns c = omega (arith, bare-none (λ x. eqb x c.args.a or eqb x c.args.b) c.args.s.now c.loop-i.i false c.loop-i-test.false, c.loop-i.invariant)
