-- `ical_recur::kinds::string_is` meets its contract.
use mathlib.Core.Path.{◌∙◌}
use Rattle.ical_recur.proofs.CodedSorts.{word-sort, moment-sort, no-string}
use Rattle.ical_recur.proofs.kinds.string_is.Goals as goal

pub returns-in-Frequency : goal.returns-in-Frequency
returns-in-Frequency c = c.is_word.ensures ∙ word-sort c.args.sort _ c.in-Frequency.is

pub returns-in-Moment : goal.returns-in-Moment
returns-in-Moment c = c.is_extended_moment.ensures ∙ moment-sort c.args.sort _ c.in-Moment.is

pub returns-in-Count : goal.returns-in-Count
returns-in-Count c = no-string c.args.sort _ c.in-Count.is
