-- `calendar::durations::is_duration` meets its contract: the letters so far are in order.
use mathlib.Core.Bool.{not}
use mathlib.Core.Path.{refl, sym, ap, ◌∙◌}
use Rattle.octets.proofs.Cases.{and-true-right, and-false-right}
use Rattle.calendar.specs.Durations.{is_unit}
use Rattle.calendar.proofs.Letters.{sets-out, breaks, goes_on, arrives}
use Rattle.calendar.proofs.durations.is_duration.Goals as goal

pub loop-octet-init : goal.loop-octet-init
loop-octet-init c = sets-out _ _ c.sign_length.result c.sign_length.ensures.1 refl

pub returns-then-not-may_come : goal.returns-then-not-may_come
returns-then-not-may_come c = breaks _ _ _ _ _ _ c.loop-octet.invariant c.loop-octet-test.true c.upper_octet-c.ensures (sym c.may_come.ensures ∙ c.if-not-may_come.true)

pub loop-octet-preserved : goal.loop-octet-preserved
loop-octet-preserved c = rw c.letter_with-letter.ensures
    (goes_on _ _ _ _ _ _ c.loop-octet.invariant c.loop-octet-test.true c.upper_octet-c.ensures (sym c.may_come.ensures ∙ c.if-not-may_come.false))

pub returns-then-not-is_digit : goal.returns-then-not-is_digit
returns-then-not-is_digit c = c.is_unit.ensures ∙ sym (and-true-right (is_unit c.loop-octet.letter))
    ∙ (rw (sym c.is_digit.ensures ∙ c.if-not-is_digit.true) at (arrives _ _ _ _ _ c.loop-octet.invariant c.loop-octet-test.false))

pub returns-else-not-is_digit : goal.returns-else-not-is_digit
returns-else-not-is_digit c = ap not c.if-not-is_digit.false ∙ sym (and-false-right (is_unit c.loop-octet.letter))
    ∙ (rw (sym c.is_digit.ensures ∙ c.if-not-is_digit.false) at (arrives _ _ _ _ _ c.loop-octet.invariant c.loop-octet-test.false))
