-- `content::twice::has_name` meets its contract.
use mathlib.Core.Path.{◌≡◌}
use lib.ListN.{length}
use Rattle.octets.specs.Classes.{lower}
use Rattle.content.specs.Parts.{params_in}
use Rattle.content.proofs.ParamPlaces.{has_name}
use Rattle.content.proofs.twice.has_name.Given as goal

abbrev pub invariant-loop-p : goal.invariant-loop-p
invariant-loop-p l = has_name (lower l.name) (params_in l.s) ≡ has_name (lower l.name) (params_in l.rest)

abbrev pub decreases-loop-p : goal.decreases-loop-p
decreases-loop-p l = length l.rest
