-- `calendar::items::is_frequency` meets its contract.
use mathlib.Core.Path.{sym, ap, ◌∙◌}
use Rattle.octets.specs.Optional.{is_some}
use Rattle.octets.proofs.Optional.{some-when}
use Rattle.calendar.specs.Recurrence.{word_of}
use Rattle.calendar.proofs.Options.{said-some}
use Rattle.calendar.proofs.items.is_frequency.Goals as goal

pub returns : goal.returns
unfolding word_of
returns c = c.is_some.ensures ∙ said-some _ ∙ ap is_some c.frequency_named.ensures ∙ some-when _ _ ∙ sym (some-when _ _)
