-- `content::write::is_quoted` meets its contract.
use mathlib.Core.Path.{◌≡◌}
use lib.ListN.{drop}
use Rattle.octets.specs.Basics.{any}
use Rattle.content.specs.Write.{asks_quotes}
use Rattle.content.proofs.write.is_quoted.Given as goal

abbrev pub invariant-loop-c : goal.invariant-loop-c
invariant-loop-c l = any asks_quotes l.v ≡ any asks_quotes (drop l.c-index l.v)
