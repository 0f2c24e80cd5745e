-- `calendar::texts::year` meets its contract: two digits more behind the first two.
use mathlib.Core.Path.{◌∙◌}
use Rattle.octets.specs.Decimal.{value_of}
use Rattle.calendar.specs.Forms.{number_at}
use Rattle.calendar.proofs.Numbers.{digit-more}
use Rattle.calendar.proofs.texts.year.Goals as goal

pub returns : goal.returns
unfolding number_at value_of
returns c = c.digit_on-2.ensures.0 ∙ (rw (c.digit_on.ensures.0, c.pair.ensures.0, digit-more c.args.t.now 0 2 0) (digit-more c.args.t.now 0 3 0))
