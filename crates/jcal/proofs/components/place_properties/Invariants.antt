-- `jcal::components::place_properties` meets its contract.
use Prim.Native.Nat.{◌-◌, ◌≤◌}
use mathlib.Core.Path.{◌≡◌}
use lib.ListN.{length, drop}
use Rattle.octets.specs.Pen.{pen}
use Rattle.types.specs.Laid.{table_in}
use Rattle.conversion_theory.specs.Property.{read_property}
use Rattle.jcal.specs.Events.{events_in}
use Rattle.jcal.proofs.Properties.{Held}
use Rattle.jcal.proofs.components.place_properties.Given as goal

abbrev pub invariant-loop-line : goal.invariant-loop-line
invariant-loop-line l = (l.lines.buf.now ≡ l.calendar.lines.now) × (length l.out ≡ length l.initial.out) × (l.from ≤ l.lines.at) × Held (read_property (table_in l.calendar.rows.now)) l.calendar.in_order (events_in (drop l.from l.calendar.lines.now)) (pen l.initial.out l.initial.to) (events_in (drop l.lines.at l.calendar.lines.now)) l.first (pen l.out l.to)

abbrev pub decreases-loop-line : goal.decreases-loop-line
decreases-loop-line l = length l.calendar.lines.now - l.lines.at
