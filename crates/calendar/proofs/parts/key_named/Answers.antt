-- `calendar::parts::key_named` meets its contract: a name is one of the keys that are as long as it, or none.
use mathlib.Core.Path.{refl, sym, ◌∙◌}
use native.Mathlib.Omega.{arith}
use borrow.Author.Tests.{ne_eqb}
use lib.ListN.{length}
use Rattle.octets.specs.Classes.{between, is_lower, upper_octet, upper, same_name}
use Rattle.calendar.specs.Recurrence.{keys}
use Rattle.calendar.specs.Walk.{word_place_from}
use Rattle.calendar.proofs.Keys.{key-chosen, place-by}
use Rattle.calendar.proofs.parts.key_named.Goals as goal

pub returns-in-4 : goal.returns-in-4
unfolding word_place_from keys same_name upper upper_octet is_lower between
returns-in-4 c = rw (c.chosen.ensures, key-chosen, c.chosen-wkst.ensures, key-chosen, c.same_name.ensures, c.same_name-in-4.ensures) (place-by 4 c.args.name.now c.in-4.is)

pub returns-in-5 : goal.returns-in-5
unfolding word_place_from keys same_name upper upper_octet is_lower between
returns-in-5 c = rw (c.chosen-in-5.ensures, key-chosen, c.chosen-count.ensures, key-chosen, c.chosen-by_day.ensures, key-chosen, c.same_name-in-5.ensures, c.same_name-in-5-2.ensures, c.same_name-in-5-3.ensures) (place-by 5 c.args.name.now c.in-5.is)

pub returns-in-6 : goal.returns-in-6
unfolding word_place_from keys same_name upper upper_octet is_lower between
returns-in-6 c = rw (c.chosen-in-6.ensures, key-chosen, c.same_name-in-6.ensures) (place-by 6 c.args.name.now c.in-6.is)

pub returns-in-7 : goal.returns-in-7
unfolding word_place_from keys same_name upper upper_octet is_lower between
returns-in-7 c = rw (c.chosen-in-7.ensures, key-chosen, c.same_name-in-7.ensures) (place-by 7 c.args.name.now c.in-7.is)

pub returns-in-9 : goal.returns-in-9
unfolding word_place_from keys same_name upper upper_octet is_lower between
returns-in-9 c = rw (c.chosen-in-9.ensures, key-chosen, c.same_name-in-9.ensures) (place-by 9 c.args.name.now c.in-9.is)

pub returns-in-10 : goal.returns-in-10
unfolding word_place_from keys same_name upper upper_octet is_lower between
returns-in-10 c = rw (c.chosen-in-10.ensures, key-chosen, c.same_name-in-10.ensures) (place-by 10 c.args.name.now c.in-10.is)

pub returns-in-8 : goal.returns-in-8
returns-in-8 c = c.long_key_named.ensures ∙ place-by 8 _ c.in-8.is

pub returns-in_default : goal.returns-in_default
unfolding word_place_from keys
returns-in_default c = sym (sym (place-by _ c.args.name.now refl) ∙ rw (ne_eqb (length c.args.name.now) 4 (λ h. omega (arith, h)), ne_eqb (length c.args.name.now) 5 (λ h. omega (arith, h)), ne_eqb (length c.args.name.now) 6 (λ h. omega (arith, h)), ne_eqb (length c.args.name.now) 7 (λ h. omega (arith, h)), ne_eqb (length c.args.name.now) 8 (λ h. omega (arith, h)), ne_eqb (length c.args.name.now) 9 (λ h. omega (arith, h)), ne_eqb (length c.args.name.now) 10 (λ h. omega (arith, h))))
