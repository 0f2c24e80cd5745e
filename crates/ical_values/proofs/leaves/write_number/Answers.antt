-- `ical_values::leaves::write_number` meets its contract.
use Rattle.ical_values.proofs.Sorts.{no_number}
use Rattle.values.specs.Write.{is_number, value_is, value_text}
use Rattle.values.specs.Coded.{sort_said}
use Rattle.json_text.specs.Tree.{string?, number?, octets_of}
use Rattle.octets.proofs.Pen.{front_same}
use Rattle.octets.specs.Optional.{holds, given}
use mathlib.Core.Path.{sym, ◌∙◌}
use Rattle.ical_values.proofs.leaves.write_number.Goals as goal

pub returns-then-not-is_integer : goal.returns-then-not-is_integer
unfolding sort_said value_is is_number holds number?
returns-then-not-is_integer c = rw c.in-Integer.is (sym c.is_integer.ensures ∙ c.if-not-is_integer.true, front_same)

pub returns-in-Float : goal.returns-in-Float
unfolding sort_said value_is value_text is_number holds number? octets_of given string?
returns-in-Float c = rw c.in-Float.is (rw c.is_float.ensures at c.fold_if.ensures)

pub returns-else-not-is_integer : goal.returns-else-not-is_integer
unfolding sort_said value_is value_text is_number holds number? octets_of given string?
returns-else-not-is_integer c = rw c.in-Integer.is (sym c.is_integer.ensures ∙ c.if-not-is_integer.false, c.fold_integer.ensures)

pub returns-in_default : goal.returns-in_default
returns-in_default c = (no_number _ _ c.in_default.not-Float c.in_default.not-Integer, front_same)
