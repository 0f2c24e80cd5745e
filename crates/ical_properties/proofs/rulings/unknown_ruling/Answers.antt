-- `ical_properties::rulings::unknown_ruling` meets its contract.
use Rattle.ical_properties.proofs.RowAnswers.{listed, unlisted, unknown-listed, unknown-unlisted}
use Rattle.ical_properties.proofs.rulings.unknown_ruling.Goals as goal

pub returns-in-Some : goal.returns-in-Some
returns-in-Some c = unknown-listed _ (listed c.in-Some.is c.find-f.ensures) c.known_code.ensures

pub returns-in-None : goal.returns-in-None
returns-in-None c = unknown-unlisted _ (unlisted c.in-None.is c.find-f.ensures)
