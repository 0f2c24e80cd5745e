-- `octets::leading_zeros` meets its contract.
use mathlib.Core.Path.{◌≡◌, sym, ap, ◌∙◌}
use native.Mathlib.Omega.{arith}
use lib.ListN.{length}
use Rattle.octets.specs.Classes.{is_digit}
use Rattle.octets.proofs.Decimal.{trim-on, trim-other, trim-last, trim_end}
use Rattle.octets.proofs.numbers.leading_zeros.Goals as goal
use Rattle.octets.proofs.numbers.leading_zeros.Goals.{then-c-ne48-via-then-c-ne48, then-c-ne48-via-else-c-ne48+then-not-is_digit}

pub returns-then-c-ne48 : goal.returns-then-c-ne48
returns-then-c-ne48 c = let i = c.loop-i in (
  omega arith,
  i.invariant ∙ elim c.then-c-ne48.branch [
    | then-c-ne48-via-then-c-ne48 w ↦ trim-other c.args.s.now i.i c.loop-i-test.true w.if-c-ne48.true
    | then-c-ne48-via-else-c-ne48+then-not-is_digit w ↦ trim-last c.args.s.now i.i c.loop-i-test.true (ap is_digit (sym w.peek.ensures) ∙ sym w.is_digit.ensures ∙ w.if-not-is_digit.true)
  ],
)

pub loop-i-preserved : goal.loop-i-preserved
loop-i-preserved c = c.loop-i.invariant ∙ trim-on c.args.s.now c.loop-i.i c.loop-i-test.true c.if-c-ne48.false (ap is_digit (sym c.peek.ensures) ∙ sym c.is_digit.ensures ∙ c.if-not-is_digit.false)

pub returns : goal.returns
returns c = let e : c.loop-i.i ≡ length c.args.s.now = omega arith in
    (omega arith, rw (← e) (c.loop-i.invariant ∙ trim_end c.args.s.now c.loop-i.i c.loop-i-test.false))
