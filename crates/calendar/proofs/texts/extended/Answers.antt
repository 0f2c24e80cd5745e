-- `calendar::texts::extended` meets its contract: the text that is taken is the definition's.
use mathlib.Core.Path.{◌∙◌}
use Rattle.calendar.proofs.Fixed.{form-taken}
use Rattle.calendar.proofs.texts.extended.Goals as goal

pub returns : goal.returns
returns c = c.take.ensures ∙ form-taken c.args.form _
