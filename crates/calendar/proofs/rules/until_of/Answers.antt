-- `calendar::rules::until_of` meets its contract.
use mathlib.Core.Path.{sym, ap, ◌∙◌}
use Rattle.octets.specs.Optional.{given, said}
use Rattle.calendar.specs.Reading.{last_of}
use Rattle.calendar.specs.declared.rules.End.TheVariants.{Until, Open}
use Rattle.calendar.proofs.rules.until_of.Goals as goal

pub returns-in-Some : goal.returns-in-Some
returns-in-Some c = unfold last_of given in ap (given Open Until) (ap said (sym c.in-Some.is) ∙ c.read_moment.ensures)

pub returns-in-None : goal.returns-in-None
returns-in-None c = unfold last_of given in ap (given Open Until) (ap said (sym c.in-None.is) ∙ c.read_moment.ensures)
