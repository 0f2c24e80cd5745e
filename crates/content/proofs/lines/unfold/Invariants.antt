-- `content::lines::unfold` meets its contract.
use Rattle.content.proofs.LineRuns.{laid_from}
use Rattle.content.specs.Lines.{lines_of}
use Rattle.content.specs.Buffer.{laid_out}
use Rattle.octets.proofs.Pen.{Leads}
use Rattle.octets.specs.Pen.{pen}
use lib.ListN.{length, drop}
use mathlib.Core.Path.{◌≡◌}
use Prim.Native.Nat.{◌-◌}
use Rattle.content.proofs.lines.unfold.Given as goal

abbrev pub invariant-loop-i : goal.invariant-loop-i
invariant-loop-i l = (length l.out ≡ length l.initial.out) × Leads (pen l.initial.out 0) (laid_out (lines_of l.text)) (pen l.out l.at) (laid_from l.begun (lines_of (drop l.i l.text)))

abbrev pub decreases-loop-i : goal.decreases-loop-i
decreases-loop-i l = length l.text - l.i
