-- `calendar::items::is_until` meets its contract.
use mathlib.Core.Path.{sym, ap, ◌∙◌}
use Rattle.octets.specs.Optional.{is_some}
use Rattle.calendar.proofs.Options.{said-some}
use Rattle.calendar.proofs.ItemTests.{until-stands}
use Rattle.calendar.proofs.items.is_until.Goals as goal

pub returns : goal.returns
returns c = c.is_some.ensures ∙ said-some _ ∙ ap is_some c.read_moment.ensures ∙ sym (until-stands c.args.s.now)
