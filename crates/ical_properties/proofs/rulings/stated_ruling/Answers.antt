-- `ical_properties::rulings::stated_ruling` meets its contract.
use mathlib.Core.Path.{refl}
use Rattle.ical_properties.proofs.RowAnswers.{listed, unlisted, stated-listed, stated-unlisted}
use Rattle.ical_properties.proofs.rulings.stated_ruling.Goals as goal

pub returns-in-Some : goal.returns-in-Some
returns-in-Some c = stated-listed _ _ c.requires c.code_named-c.ensures c.sort_of-s.ensures (listed c.in-Some.is c.find-f.ensures) refl

pub returns-in-None : goal.returns-in-None
returns-in-None c = stated-unlisted _ _ c.requires c.code_named-c.ensures c.sort_of-s.ensures (unlisted c.in-None.is c.find-f.ensures)
