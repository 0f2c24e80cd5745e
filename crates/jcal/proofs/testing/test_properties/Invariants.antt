-- `jcal::testing::test_properties` meets its contract.
use mathlib.Core.Path.{◌≡◌}
use lib.ListN.{drop}
use Rattle.types.specs.Laid.{table_in}
use Rattle.conversion_theory.specs.Property.{read_property}
use Rattle.jcal.specs.Events.{events_in}
use Rattle.jcal.specs.Components.{each_tested}
use Rattle.jcal.proofs.testing.test_properties.Given as goal

abbrev pub invariant-loop-line : goal.invariant-loop-line
invariant-loop-line l = (l.line-iterator.buf.now ≡ l.calendar.lines.now) × (each_tested (read_property (table_in l.calendar.rows.now)) (events_in l.calendar.lines.now) ≡ each_tested (read_property (table_in l.calendar.rows.now)) (events_in (drop l.line-iterator.at l.calendar.lines.now)))
