-- `calendar::rules::is_rule` meets its contract: there is a rule where there are its parts.
use mathlib.Core.Bool.{false}
use mathlib.Core.Path.{ap, ◌∙◌}
use Rattle.octets.specs.Optional.{is_some}
use Rattle.calendar.proofs.Options.{said-some}
use Rattle.calendar.proofs.RuleLoop.{rule-stands}
use Rattle.calendar.proofs.rules.is_rule.Goals as goal

pub returns : goal.returns
returns c = c.is_some.ensures ∙ said-some _ ∙ ap is_some c.read_parts.ensures ∙ rule-stands false _
