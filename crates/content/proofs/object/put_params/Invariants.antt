-- `content::object::put_params` meets its contract.
use mathlib.Core.Path.{◌≡◌}
use mathlib.Core.Bool.{false}
use lib.ListN.{length}
use Rattle.octets.specs.Pen.{pen}
use Rattle.octets.proofs.Pen.{Leads}
use Rattle.content.specs.Parts.{params_in}
use Rattle.content.proofs.Objects.{members_text}
use Rattle.content.proofs.object.put_params.Given as goal

abbrev pub invariant-loop-p : goal.invariant-loop-p
invariant-loop-p l = (length l.out ≡ length l.initial.out) × Leads (pen l.initial.out l.initial.to) (members_text l.decodes false (params_in l.s)) (pen l.out l.to) (members_text l.decodes l.begun (params_in l.rest))

abbrev pub decreases-loop-p : goal.decreases-loop-p
decreases-loop-p l = length l.rest
