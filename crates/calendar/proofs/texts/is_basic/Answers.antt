-- `calendar::texts::is_basic` meets its contract: there is a text that is taken.
use mathlib.Core.Path.{ap, ◌∙◌}
use Rattle.octets.specs.Optional.{is_some}
use Rattle.calendar.proofs.Options.{said-some}
use Rattle.calendar.proofs.Fixed.{form-taken}
use Rattle.calendar.proofs.texts.is_basic.Goals as goal

pub returns : goal.returns
returns c = c.is_some.ensures ∙ said-some _ ∙ ap is_some (c.take.ensures ∙ form-taken c.args.form _)
