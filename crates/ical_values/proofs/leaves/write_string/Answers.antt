-- `ical_values::leaves::write_string` meets its contract.
use Rattle.ical_values.proofs.Sorts.{no-string}
use Rattle.values.specs.Write.{is_string, is_lettered, value_is, value_text}
use Rattle.values.specs.Coded.{sort_said}
use Rattle.octets.proofs.Pen.{front_same}
use Rattle.octets.specs.Optional.{holds, given}
use Rattle.json_text.specs.Tree.{string?, number?, octets_of}
use mathlib.Core.Path.{sym, ◌∙◌}
use Rattle.ical_values.proofs.leaves.write_string.Goals as goal

pub returns-then-not-is_duration : goal.returns-then-not-is_duration
unfolding sort_said value_is is_lettered holds string?
returns-then-not-is_duration c = rw c.in-Duration.is (sym c.is_duration.ensures ∙ c.if-not-is_duration.true, front_same)

pub returns-in-Plain : goal.returns-in-Plain
unfolding sort_said value_is value_text is_string is_lettered holds string? number? octets_of given
returns-in-Plain c = rw c.in-Plain.is (rw c.all_plain.ensures at c.fold_if.ensures)

pub returns-in-Binary : goal.returns-in-Binary
unfolding sort_said value_is value_text is_string is_lettered holds string? number? octets_of given
returns-in-Binary c = rw c.in-Binary.is (rw c.is_binary.ensures at c.fold_if-in-Binary.ensures)

pub returns-in-Date : goal.returns-in-Date
unfolding sort_said value_is value_text is_string is_lettered holds string? number? octets_of given
returns-in-Date c = rw c.in-Date.is c.write_form.ensures

pub returns-in-DateTime : goal.returns-in-DateTime
unfolding sort_said value_is value_text is_string is_lettered holds string? number? octets_of given
returns-in-DateTime c = rw c.in-DateTime.is c.write_form-in-DateTime.ensures

pub returns-else-not-is_duration : goal.returns-else-not-is_duration
unfolding sort_said value_is value_text is_string is_lettered holds string? number? octets_of given
returns-else-not-is_duration c = rw c.in-Duration.is (sym c.is_duration.ensures ∙ c.if-not-is_duration.false, c.fold_upper.ensures)

pub returns-in-Text : goal.returns-in-Text
unfolding sort_said value_is value_text is_string is_lettered holds string? number? octets_of given
returns-in-Text c = rw c.in-Text.is c.write_text.ensures

pub returns-in-Time : goal.returns-in-Time
unfolding sort_said value_is value_text is_string is_lettered holds string? number? octets_of given
returns-in-Time c = rw c.in-Time.is c.write_form-in-Time.ensures

pub returns-in-UtcOffset : goal.returns-in-UtcOffset
unfolding sort_said value_is value_text is_string is_lettered holds string? number? octets_of given
returns-in-UtcOffset c = rw c.in-UtcOffset.is c.write_form-in-UtcOffset.ensures

pub returns-in_default : goal.returns-in_default
returns-in_default c = (no-string _ _ c.in_default.not-Plain c.in_default.not-Binary c.in_default.not-Date c.in_default.not-DateTime c.in_default.not-Duration c.in_default.not-Text c.in_default.not-Time c.in_default.not-UtcOffset, front_same)
