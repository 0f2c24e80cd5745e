-- `jcal::components::next_at` meets its contract.
use Prim.Native.Nat.{◌-◌, ◌≤◌}
use mathlib.Core.Path.{◌≡◌}
use lib.ListN.{length, drop}
use Rattle.jcal.specs.Events.{events_in}
use Rattle.jcal.specs.Components.{next_of}
use Rattle.jcal.proofs.components.next_at.Given as goal

abbrev pub invariant-loop-line : goal.invariant-loop-line
invariant-loop-line l = (l.lines.buf.now ≡ l.buf) × (l.from ≤ l.lines.at) × (next_of (events_in (drop l.lines.at l.buf)) ≡ next_of (events_in (drop l.from l.buf)))

abbrev pub decreases-loop-line : goal.decreases-loop-line
decreases-loop-line l = length l.buf - l.lines.at
