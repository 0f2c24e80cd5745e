-- `calendar::parts::frequency_named` meets its contract: a name is one of the frequencies that are as long as it, or none.
use mathlib.Core.Path.{refl, sym, ◌∙◌}
use native.Mathlib.Omega.{arith}
use borrow.Author.Tests.{ne_eqb}
use lib.ListN.{length}
use Rattle.std.specs.Prelude.{None}
use Rattle.octets.specs.Classes.{between, is_lower, upper_octet, upper, same_name}
use Rattle.calendar.specs.Recurrence.{frequencies}
use Rattle.calendar.specs.Walk.{word_place_from}
use Rattle.calendar.proofs.Keys.{word-by}
use Rattle.calendar.proofs.Choices.{frequency-chosen, frequency-told}
use Rattle.calendar.proofs.parts.frequency_named.Goals as goal

pub returns-in-5 : goal.returns-in-5
unfolding word_place_from frequencies same_name upper upper_octet is_lower between
returns-in-5 c = frequency-told _ (upper c.args.name.now) (rw (c.chosen.ensures, frequency-chosen, c.same_name.ensures) (word-by frequencies 5 c.args.name.now c.in-5.is))

pub returns-in-6 : goal.returns-in-6
unfolding word_place_from frequencies same_name upper upper_octet is_lower between
returns-in-6 c = frequency-told _ (upper c.args.name.now) (rw (c.chosen-in-6.ensures, frequency-chosen, c.chosen-weekly.ensures, frequency-chosen, c.chosen-yearly.ensures, frequency-chosen, c.same_name-in-6.ensures, c.same_name-in-6-2.ensures, c.same_name-in-6-3.ensures) (word-by frequencies 6 c.args.name.now c.in-6.is))

pub returns-in-7 : goal.returns-in-7
unfolding word_place_from frequencies same_name upper upper_octet is_lower between
returns-in-7 c = frequency-told _ (upper c.args.name.now) (rw (c.chosen-in-7.ensures, frequency-chosen, c.same_name-in-7.ensures) (word-by frequencies 7 c.args.name.now c.in-7.is))

pub returns-in-8 : goal.returns-in-8
unfolding word_place_from frequencies same_name upper upper_octet is_lower between
returns-in-8 c = frequency-told _ (upper c.args.name.now) (rw (c.chosen-in-8.ensures, frequency-chosen, c.chosen-minutely.ensures, frequency-chosen, c.same_name-in-8.ensures, c.same_name-in-8-2.ensures) (word-by frequencies 8 c.args.name.now c.in-8.is))

pub returns-in_default : goal.returns-in_default
unfolding word_place_from frequencies
returns-in_default c = frequency-told None (upper c.args.name.now) (sym (sym (word-by frequencies _ c.args.name.now refl) ∙ rw (ne_eqb (length c.args.name.now) 5 (λ h. omega (arith, h)), ne_eqb (length c.args.name.now) 6 (λ h. omega (arith, h)), ne_eqb (length c.args.name.now) 7 (λ h. omega (arith, h)), ne_eqb (length c.args.name.now) 8 (λ h. omega (arith, h)))))
