-- `content::form::tail_formed` meets its contract.
use lib.ListN.{length}
use mathlib.Core.Path.{◌≡◌}
use Rattle.content.specs.LinePlaces.{unquoted, place_after, is_value}
use Rattle.content.proofs.form.tail_formed.Given as goal

abbrev pub invariant-loop-rest : goal.invariant-loop-rest
invariant-loop-rest l = is_value (place_after unquoted l.s) ≡ is_value (place_after unquoted l.rest)

abbrev pub decreases-loop-rest : goal.decreases-loop-rest
decreases-loop-rest l = length l.rest
