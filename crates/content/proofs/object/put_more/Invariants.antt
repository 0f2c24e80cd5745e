-- `content::object::put_more` meets its contract.
use Prim.Native.Nat.{◌≤◌}
use lib.ListN.{length}
use mathlib.Core.Bool.{false}
use mathlib.Core.Path.{◌≡◌}
use Prim.Native.Char.{code}
use Rattle.content.specs.Line.{pieces}
use Rattle.octets.proofs.Pen.{Leads}
use Rattle.octets.specs.Pen.{pen}
use Rattle.content.proofs.Objects.{more_text}
use Rattle.content.proofs.object.put_more.Given as goal

abbrev pub invariant-loop-rest : goal.invariant-loop-rest
invariant-loop-rest l = (length l.rest ≤ length l.values) × (length l.out ≡ length l.initial.out) × Leads (pen l.initial.out l.at) (more_text (pieces (code ",") false l.values)) (pen l.out l.to) (more_text (pieces (code ",") false l.rest))

abbrev pub decreases-loop-rest : goal.decreases-loop-rest
decreases-loop-rest l = length l.rest
