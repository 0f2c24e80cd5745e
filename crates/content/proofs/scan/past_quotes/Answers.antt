-- `content::scan::past_quotes` meets its contract.
use mathlib.Core.Path.{sym, ◌∙◌}
use native.Mathlib.Omega.{arith}
use lib.Dec.{eqb}
use Rattle.octets.specs.Basics.{◌or◌}
use Rattle.content.proofs.Scanning.{bare-none, bare-here, bare-on}
use Rattle.content.proofs.scan.past_quotes.Goals as goal

pub returns-then-is_bare : goal.returns-then-is_bare
returns-then-is_bare c = omega (arith, bare-here (λ x. eqb x c.args.a or eqb x c.args.b) c.args.s.now c.loop-i.i c.loop-i.quoted c.loop-i-test.true (sym c.is_bare.ensures ∙ c.if-is_bare.true), c.loop-i.invariant)

pub loop-i-preserved : goal.loop-i-preserved
loop-i-preserved c = rw c.quote_after-quoted.ensures (omega (arith, bare-on (λ x. eqb x c.args.a or eqb x c.args.b) c.args.s.now c.loop-i.i c.loop-i.quoted c.loop-i-test.true (sym c.is_bare.ensures ∙ c.if-is_bare.false), c.loop-i.invariant))

pub returns : goal.returns
returns c = omega (arith, bare-none (λ x. eqb x c.args.a or eqb x c.args.b) c.args.s.now c.loop-i.i c.loop-i.quoted c.loop-i-test.false, c.loop-i.invariant)
