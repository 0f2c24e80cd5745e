-- `ical_recur::kinds::is_word_octet` meets its contract.
use Rattle.std.proofs.Common.{arith}
use Rattle.std.proofs.lemmas.Grind.{common_steps}
use Rattle.octets.specs.Classes.{is_letter}
use Rattle.values.specs.Recur.{word_octet}
use Rattle.ical_recur.proofs.kinds.is_word_octet.Goals as goal
use Rattle.ical_recur.proofs.kinds.is_word_octet.Goals.{then-is_upper, else-is_upper, then-is_lower, else-is_lower}

pub returns-then-is_digit : goal.returns-then-is_digit
unfolding word_octet is_letter
returns-then-is_digit c = grind (arith, common_steps)

pub returns-else-is_digit : goal.returns-else-is_digit
unfolding word_octet is_letter
returns-else-is_digit c = grind (arith, common_steps)
