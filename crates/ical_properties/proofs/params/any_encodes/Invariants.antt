-- `ical_properties::params::any_encodes` meets its contract.
use Prim.Native.Nat.{◌-◌}
use mathlib.Core.Path.{◌≡◌}
use lib.ListN.{length}
use Rattle.tape.specs.Decode.{members_at}
use Rattle.content.specs.Parameters.{is_encoded}
use Rattle.conversion_theory.specs.Skeleton.{params_from}
use Rattle.ical_properties.proofs.params.any_encodes.Given as goal

abbrev pub invariant-loop-at : goal.invariant-loop-at
invariant-loop-at l = is_encoded (params_from (members_at l.t l.i)) ≡ is_encoded (params_from (members_at l.t l.at))

abbrev pub decreases-loop-at : goal.decreases-loop-at
decreases-loop-at l = length l.t - l.i
