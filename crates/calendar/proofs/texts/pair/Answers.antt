-- `calendar::texts::pair` meets its contract: two digits, one behind the other.
use native.Mathlib.Omega.{arith}
use mathlib.Core.Path.{◌∙◌}
use Rattle.octets.specs.Decimal.{value_from, value_of}
use Rattle.octets.proofs.Positions.{ended}
use Rattle.calendar.specs.Forms.{number_at}
use Rattle.calendar.proofs.Numbers.{digit-more}
use Rattle.calendar.proofs.texts.pair.Goals as goal

pub returns-then-t-at : goal.returns-then-t-at
returns-then-t-at c = unfold number_at value_of value_from in (rw (ended c.args.t.now c.args.at c.if-t-at.true), omega arith)

pub returns : goal.returns
unfolding number_at value_of
returns c = (c.digit_on-2.ensures.0 ∙ (rw c.digit_on.ensures.0 (digit-more c.args.t.now c.args.at 1 0)), omega (arith, c.digit_on.ensures.1, c.digit_on-2.ensures.1))
