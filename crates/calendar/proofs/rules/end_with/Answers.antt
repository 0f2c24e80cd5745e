-- `calendar::rules::end_with` meets its contract.
use Rattle.calendar.specs.declared.parts.Key.TheVariants.{Until, Count as CountKey}
use Rattle.calendar.proofs.Keys.{keys_apart}
use Rattle.calendar.proofs.rules.end_with.Goals as goal

pub returns-in-Until : goal.returns-in-Until
returns-in-Until c = rw (c.in-Until.is, c.until_of.ensures)

pub returns-in-Count : goal.returns-in-Count
returns-in-Count c = rw (c.in-Count.is, c.count_of.ensures)

pub returns-in_default : goal.returns-in_default
returns-in_default c = rw (keys_apart c.args.key Until c.in_default.not-Until, keys_apart c.args.key CountKey c.in_default.not-Count)
