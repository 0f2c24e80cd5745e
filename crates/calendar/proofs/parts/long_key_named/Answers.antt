-- `calendar::parts::long_key_named` meets its contract.
use Rattle.octets.specs.Classes.{between, is_lower, upper_octet, upper, same_name}
use Rattle.calendar.specs.Recurrence.{keys}
use Rattle.calendar.specs.Walk.{word_place_from}
use Rattle.calendar.proofs.Keys.{key-chosen}
use Rattle.calendar.proofs.parts.long_key_named.Goals as goal

pub returns : goal.returns
unfolding word_place_from keys same_name upper upper_octet is_lower between
returns c = rw (c.chosen.ensures, key-chosen, c.chosen-by_second.ensures, key-chosen, c.chosen-by_minute.ensures, key-chosen, c.chosen-by_week.ensures, key-chosen, c.chosen-by_set.ensures, key-chosen, c.same_name.ensures, c.same_name-2.ensures, c.same_name-3.ensures, c.same_name-4.ensures, c.same_name-5.ensures)
