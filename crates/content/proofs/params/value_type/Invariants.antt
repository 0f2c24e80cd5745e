-- `content::params::value_type` meets its contract.
use mathlib.Core.Path.{◌≡◌}
use lib.ListN.{length}
use Rattle.content.specs.Parts.{StandsIn, params_in}
use Rattle.content.specs.Parameters.{value_type}
use Rattle.content.proofs.params.value_type.Given as goal

abbrev pub invariant-loop-p : goal.invariant-loop-p
invariant-loop-p l = record { same : value_type (params_in l.s) ≡ value_type (params_in l.rest); stands : StandsIn l.s l.rest }

abbrev pub decreases-loop-p : goal.decreases-loop-p
decreases-loop-p l = length l.rest
