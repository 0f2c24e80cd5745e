-- `calendar::items::is_count` meets its contract.
use mathlib.Core.Path.{sym, ◌∙◌}
use Rattle.calendar.proofs.ItemTests.{count-stands}
use Rattle.calendar.proofs.items.is_count.Goals as goal

pub returns : goal.returns
returns c = c.is_within.ensures ∙ sym (count-stands c.args.s.now)
