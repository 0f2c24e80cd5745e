-- `calendar::rules::weekday_lettered` meets its contract: the second letters behind each first one.
use native.Mathlib.Omega.{arith}
use borrow.Author.Tests.{ne_eqb}
use Rattle.calendar.proofs.Choices.{day-s, day-m, day-t, day-w, day-f, day-other}
use Rattle.calendar.proofs.rules.weekday_lettered.Goals as goal

pub returns-in-83 : goal.returns-in-83
returns-in-83 c = rw (c.in-83.is, c.chosen.ensures, c.chosen-saturday.ensures) (day-s _)

pub returns-in-77 : goal.returns-in-77
returns-in-77 c = rw (c.in-77.is, c.chosen-in-77.ensures) (day-m _)

pub returns-in-84 : goal.returns-in-84
returns-in-84 c = rw (c.in-84.is, c.chosen-in-84.ensures, c.chosen-thursday.ensures) (day-t _)

pub returns-in-87 : goal.returns-in-87
returns-in-87 c = rw (c.in-87.is, c.chosen-in-87.ensures) (day-w _)

pub returns-in-70 : goal.returns-in-70
returns-in-70 c = rw (c.in-70.is, c.chosen-in-70.ensures) (day-f _)

pub returns-in_default : goal.returns-in_default
returns-in_default c = day-other _ _ (ne_eqb _ 83 (λ h. omega (arith, h))) (ne_eqb _ 77 (λ h. omega (arith, h))) (ne_eqb _ 84 (λ h. omega (arith, h))) (ne_eqb _ 87 (λ h. omega (arith, h))) (ne_eqb _ 70 (λ h. omega (arith, h)))
