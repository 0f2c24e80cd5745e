-- `calendar::by_days::added` meets its contract: 1 moved up by k digits is 2 ^ k.
use Rattle.calendar.specs.Sets.{with}
use Rattle.calendar.proofs.SetLaws.{one-moved}
use Rattle.calendar.proofs.by_days.added.Goals as goal

pub returns : goal.returns
returns c = unfold with in rw (one-moved c.args.k c.requires)
