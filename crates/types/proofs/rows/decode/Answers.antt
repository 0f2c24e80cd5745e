-- `types::rows::decode` meets its contract.
use mathlib.Core.Path.{sym, ◌∙◌}
use native.Mathlib.Omega.{arith}
use borrow.Author.Tests.{eqb-true, eqb-false}
use lib.ListN.{length-set}
use Rattle.types.proofs.Frames.{octet-is, no-high, no-low, part-size, some-left, no-digits, decoded-none, decoded-more, odd-digits, bad-digits, whole-frame, long-line}
use Rattle.types.proofs.rows.decode.Goals as goal

pub returns-then-line-gt-MOST_DIGITS-clause-row : goal.returns-then-line-gt-MOST_DIGITS-clause-row
returns-then-line-gt-MOST_DIGITS-clause-row c = no-digits _ _ (long-line _ c.if-line-gt-MOST_DIGITS.true)

pub loop-left-init : goal.loop-left-init
loop-left-init c = (omega arith, omega arith, c.requires, c.requires, decoded-none _ _)

pub returns-in_err-high-clause-row : goal.returns-in_err-high-clause-row
returns-in_err-high-clause-row c = rw c.from_residual.ensures (no-digits _ _ (bad-digits _ _ c.loop-left.invariant.4 c.in-len2-up.len_at_least (no-high _ _ c.in_err-high.ensures.value)))

pub returns-in_err-low-clause-row : goal.returns-in_err-low-clause-row
returns-in_err-low-clause-row c = rw c.from_residual-in_err-low.ensures (no-digits _ _ (bad-digits _ _ c.loop-left.invariant.4 c.in-len2-up.len_at_least (no-low _ _ c.in_err-low.ensures.value)))

pub loop-left-preserved : goal.loop-left-preserved
loop-left-preserved c = let l = c.loop-left in (
  omega arith,
  rw (part-size _ c.in-len2-up.len_at_least) (omega arith),
  simp length-set l.invariant.2,
  l.invariant.3,
  decoded-more _ _ l.invariant.4 c.in-len2-up.len_at_least _ (omega arith)
      (octet-is _ _ c.in_ok-high.ensures.value c.in_ok-low.ensures.value),
)

pub returns-then-is_empty-clause-row : goal.returns-then-is_empty-clause-row
returns-then-is_empty-clause-row c = whole-frame _ _ c.loop-left.invariant.4 (eqb-true _ 0 (sym c.is_empty.ensures ∙ c.if-is_empty.true))

pub returns-else-is_empty-clause-row : goal.returns-else-is_empty-clause-row
returns-else-is_empty-clause-row c = no-digits _ _ (odd-digits _ _ c.loop-left.invariant.4 (some-left _ (eqb-false _ 0 (sym c.is_empty.ensures ∙ c.if-is_empty.false))) c.in_default.len_below)
