-- `calendar::rules::read_rule` meets its contract: with its days a rule is whole.
use mathlib.Core.Path.{◌∙◌}
use Rattle.calendar.proofs.RuleLoop.{rule-whole}
use Rattle.calendar.proofs.rules.read_rule.Goals as goal

pub returns : goal.returns
returns c = c.read_parts.ensures ∙ rule-whole _
