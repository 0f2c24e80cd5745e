-- `calendar::rules::count_of` meets its contract.
use native.Mathlib.Omega.{arith}
use Rattle.octets.proofs.Limits.{most-integer}
use Rattle.calendar.specs.Reading.{counted}
use Rattle.calendar.proofs.rules.count_of.Goals as goal

pub overflow_cast-result : goal.overflow_cast-result
overflow_cast-result c = omega (arith, c.value_of.ensures)

pub returns : goal.returns
returns c = unfold counted in rw most-integer c.value_of.ensures
