-- `calendar::rules::is_barred` meets its contract.
use mathlib.Core.Path.{ap}
use borrow.Author.Tests.{eqb-false}
use Rattle.calendar.specs.Walk.{key_number}
use Rattle.calendar.specs.declared.parts.Key.TheVariants.{Until, Count as CountKey}
use Rattle.calendar.proofs.Keys.{keys_apart}
use Rattle.calendar.proofs.RuleLoop.{barred-seen, barred-until, barred-count, barred-not}
use Rattle.calendar.proofs.rules.is_barred.Goals as goal

pub returns-then-seen-place : goal.returns-then-seen-place
returns-then-seen-place c = barred-seen c.args.seen (key_number c.args.key) (rw c.place.ensures.0 at c.if-seen-place.true)

pub returns-in-Until : goal.returns-in-Until
returns-in-Until c = rw c.place-in-Until.ensures.0
    (barred-until c.args.seen (key_number c.args.key) (rw c.place.ensures.0 at c.if-seen-place.false) (ap key_number c.in-Until.is))

pub returns-in-Count : goal.returns-in-Count
returns-in-Count c = rw c.place-in-Count.ensures.0
    (barred-count c.args.seen (key_number c.args.key) (rw c.place.ensures.0 at c.if-seen-place.false) (ap key_number c.in-Count.is))

pub returns-in_default : goal.returns-in_default
returns-in_default c = let k = c.args.key in
    barred-not c.args.seen (key_number k) (rw c.place.ensures.0 at c.if-seen-place.false)
    (eqb-false (key_number k) 1 (keys_apart k Until c.in_default.not-Until)) (eqb-false (key_number k) 2 (keys_apart k CountKey c.in_default.not-Count))
