-- `tape::walking::text_end` meets its contract.
use Rattle.tape.specs.Decode.{text_at_front, text_at}
use Rattle.tape.proofs.walking.text_end.Goals as goal

pub returns : goal.returns
unfolding text_at text_at_front
returns c = c.find_near.ensures
