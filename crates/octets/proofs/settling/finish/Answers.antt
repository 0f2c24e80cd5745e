-- `octets::finish` meets its contract.
use native.Mathlib.Omega.{arith}
use lib.ListN.{length}
use borrow.Author.Tests.{le-leb, lt-leb}
use Rattle.octets.specs.Answers.{outcome, finished, zeroed}
use Rattle.octets.proofs.settling.finish.Goals as goal

-- `octets::finish` meets its contract.
pub returns-then-at-out : goal.returns-then-at-out
unfolding outcome finished
returns-then-at-out c = rw (le-leb c.args.at (length c.args.out.now) (omega arith))

pub returns-else-at-out : goal.returns-else-at-out
unfolding outcome finished zeroed
returns-else-at-out c = rw (lt-leb c.args.at (length c.args.out.now) (omega arith), c.zero.ensures)
