-- `calendar::texts::take` meets its contract: a text that has the form is taken if its numbers are real.
use mathlib.Core.Path.{sym, ap, ◌∙◌}
use Rattle.octets.specs.Optional.{said}
use Rattle.calendar.specs.Texts.{numbers_in}
use Rattle.calendar.proofs.Fixed.{passes, fails, lacks}
use Rattle.calendar.proofs.texts.take.Goals as goal

pub returns-in_err-t : goal.returns-in_err-t
returns-in_err-t c = rw c.from_residual.ensures (lacks _ _ _ (ap said (sym c.in_err-t.was) ∙ c.shape.ensures))

pub returns-then-numbers_in : goal.returns-then-numbers_in
returns-then-numbers_in c =
    passes _ _ _ _ (ap said (sym c.in_ok-t.was) ∙ c.shape.ensures) (ap (numbers_in c.args.form) (sym c.as_slice.ensures) ∙ sym c.numbers_in.ensures ∙ c.if-numbers_in.true)

pub returns : goal.returns
returns c =
    fails _ _ _ _ (ap said (sym c.in_ok-t.was) ∙ c.shape.ensures) (ap (numbers_in c.args.form) (sym c.as_slice.ensures) ∙ sym c.numbers_in.ensures ∙ c.if-numbers_in.false)
