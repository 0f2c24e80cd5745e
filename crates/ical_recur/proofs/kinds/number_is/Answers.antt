-- `ical_recur::kinds::number_is` meets its contract.
use mathlib.Core.Path.{◌∙◌}
use Rattle.ical_recur.proofs.CodedSorts.{number-sort, number-other}
use Rattle.ical_recur.proofs.kinds.number_is.Goals as goal

pub returns-in-Count : goal.returns-in-Count
returns-in-Count c = c.is_integer.ensures ∙ number-sort c.args.sort _ c.in-Count.is

pub returns-in_default : goal.returns-in_default
returns-in_default c = number-other c.args.sort _ c.in_default.not-Count c.in_default.not-Numbers
