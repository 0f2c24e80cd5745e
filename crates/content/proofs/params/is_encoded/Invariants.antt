-- `content::params::is_encoded` meets its contract.
use mathlib.Core.Path.{◌≡◌}
use lib.ListN.{length}
use Rattle.content.specs.Parts.{params_in}
use Rattle.content.specs.Parameters.{is_encoded}
use Rattle.content.proofs.params.is_encoded.Given as goal

abbrev pub invariant-loop-p : goal.invariant-loop-p
invariant-loop-p l = is_encoded (params_in l.s) ≡ is_encoded (params_in l.rest)

abbrev pub decreases-loop-p : goal.decreases-loop-p
decreases-loop-p l = length l.rest
