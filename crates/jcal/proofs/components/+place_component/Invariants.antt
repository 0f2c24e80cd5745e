-- `jcal::components::place_component` meets its contract: sub-components by the same rule. The measure is the levels left.
use Prim.Native.Nat.{◌+◌}
use mathlib.Core.Path.{◌≡◌}
use lib.ListN.{length, drop}
use Rattle.types.specs.Laid.{table_in}
use Rattle.conversion_theory.specs.Property.{read_property}
use Rattle.jcal.specs.Events.{events_in}
use Rattle.jcal.proofs.Subcomponents.{Going, behind_it}
use Rattle.jcal.proofs.components.+place_component.Given as goal

abbrev pub decreases-place_component : goal.decreases-place_component
decreases-place_component l = l.left

abbrev pub invariant-loop-next : goal.invariant-loop-next
invariant-loop-next l = (length l.out ≡ length l.initial.out) × Going (read_property (table_in l.calendar.rows.now)) l.calendar.lines.now (l.e + 1) l.calendar.in_order (events_in (drop (l.e + 1) l.calendar.lines.now)) l.initial.next l.initial.out l.left l.first l.out l.next

abbrev pub decreases-loop-next : goal.decreases-loop-next
decreases-loop-next l = behind_it l.calendar.lines.now l.next
