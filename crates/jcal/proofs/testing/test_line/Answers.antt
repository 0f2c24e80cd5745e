-- `jcal::testing::test_line` meets its contract.
use mathlib.Core.Path.{◌∙◌}
use Rattle.types.specs.Laid.{table_in}
use Rattle.jcal.proofs.PropertyTests.{line_read_lem, other-tested, plain-tested}
use Rattle.jcal.proofs.LineKinds.{told-as}
use Rattle.jcal.proofs.testing.test_line.Goals as goal

pub returns-in-Plain : goal.returns-in-Plain
returns-in-Plain c = rw (line_read_lem (table_in c.args.calendar.rows.now) c.args.calendar.lines.now c.args.line.at c.args.line.end c.requires.line_at c.args.calendar.few) at c.test_property.ensures ∙ plain-tested _ _ _ _ (told-as c.requires.tells c.in-Plain.is)

pub returns-in_default : goal.returns-in_default
returns-in_default c = other-tested _ _ _ _ _ c.in_default.not-Plain c.requires.tells
