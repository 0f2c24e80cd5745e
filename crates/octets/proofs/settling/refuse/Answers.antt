-- `octets::refuse` meets its contract.
use Rattle.octets.specs.Answers.{outcome, answer, zeroed}
use Rattle.octets.proofs.settling.refuse.Goals as goal

pub returns : goal.returns
unfolding outcome answer zeroed
returns c = rw c.zero.ensures
