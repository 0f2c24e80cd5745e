-- `tape::walking::past_text` meets its contract.
use Rattle.tape.proofs.walking.past_text.Goals as goal

pub returns : goal.returns
returns c = rw c.text_end-e.ensures at c.after.ensures
