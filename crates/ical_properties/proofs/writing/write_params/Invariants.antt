-- `ical_properties::writing::write_params` meets its contract.
use Prim.Native.Nat.{◌-◌}
use mathlib.Core.Path.{◌≡◌}
use lib.ListN.{length}
use Rattle.tape.specs.Decode.{members_at}
use Rattle.content.specs.Folding.{folding}
use Rattle.content.specs.Write.{params_text}
use Rattle.content.proofs.Folding.{Leads}
use Rattle.conversion_theory.specs.Skeleton.{params_from}
use Rattle.ical_properties.proofs.writing.write_params.Given as goal

abbrev pub invariant-loop-q : goal.invariant-loop-q
invariant-loop-q l = (length l.out ≡ length l.initial.out) × Leads (folding l.initial.out l.initial.q) (params_text (params_from (members_at l.t l.at))) (folding l.out l.q) (params_text (params_from (members_at l.t l.i)))

abbrev pub decreases-loop-q : goal.decreases-loop-q
decreases-loop-q l = length l.t - l.i
