-- The number is that of the refusal, and 0 of a text.
use Rattle.octets.specs.Answers.{outcome}
use Rattle.console.proofs.print_answer.Goals as goal

pub returns-in-Ok : goal.returns-in-Ok
unfolding outcome
returns-in-Ok g c = rw c.in-Ok.is c.print_text.ensures

pub returns-in-Err : goal.returns-in-Err
unfolding outcome
returns-in-Err g c = rw c.in-Err.is c.number-number.ensures
