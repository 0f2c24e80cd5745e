-- `jcal::components::behind_end` meets its contract.
use Prim.Native.Nat.{◌-◌, ◌≤◌}
use mathlib.Core.Path.{◌≡◌}
use lib.ListN.{length, drop}
use Rattle.jcal.specs.Events.{events_in}
use Rattle.jcal.specs.Components.{behind_end}
use Rattle.jcal.proofs.components.behind_end.Given as goal

abbrev pub invariant-loop-line : goal.invariant-loop-line
invariant-loop-line l = (l.lines.buf.now ≡ l.buf) × (l.from ≤ l.lines.at) × (l.within ≤ l.lines.at) × (behind_end l.within (events_in (drop l.lines.at l.buf)) ≡ behind_end 0 (events_in (drop l.from l.buf)))

abbrev pub decreases-loop-line : goal.decreases-loop-line
decreases-loop-line l = length l.buf - l.lines.at
