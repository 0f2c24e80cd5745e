-- `ical_values::single::leaf_at` meets its contract.
use mathlib.Core.Path.{sym, ◌∙◌}
use native.Mathlib.Omega.{arith}
use Rattle.octets.proofs.Pen.{front_same}
use Rattle.tape.proofs.Values.{no-string, no_number}
use Rattle.ical_values.proofs.Places.{string-value, number-value}
use Rattle.ical_values.proofs.Sorts.{no_other}
use Rattle.ical_values.proofs.single.leaf_at.Goals as goal

pub returns-in_ok-write_string-in-4 : goal.returns-in_ok-write_string-in-4
returns-in_ok-write_string-in-4 c = let w = c.in_ok-write_string-in-4.ensures in
    rw (string-value c.text_at-s.ensures (sym c.tag.ensures ∙ c.in-4.is)) (w.0, w.1, c.text_at-s.ensures.behind)

pub returns-in_err-write_string-in-4 : goal.returns-in_err-write_string-in-4
returns-in_err-write_string-in-4 c = rw c.from_residual.ensures (rw (string-value c.text_at-s.ensures (sym c.tag.ensures ∙ c.in-4.is)) c.in_err-write_string-in-4.ensures)

pub returns-in_ok-write_number-in-3 : goal.returns-in_ok-write_number-in-3
returns-in_ok-write_number-in-3 c = let w = c.in_ok-write_number-in-3.ensures in
    rw (number-value c.text_at-s.ensures (sym c.tag.ensures ∙ c.in-3.is)) (w.0, w.1, c.text_at-s.ensures.behind)

pub returns-in_err-write_number-in-3 : goal.returns-in_err-write_number-in-3
returns-in_err-write_number-in-3 c = rw c.from_residual-in_err-write_number-in-3.ensures (rw (number-value c.text_at-s.ensures (sym c.tag.ensures ∙ c.in-3.is)) c.in_err-write_number-in-3.ensures)

pub returns-in_default : goal.returns-in_default
returns-in_default c = (no_other _ (no-string _ _ (λ z. omega arith)) (no_number _ _ (λ z. omega arith)) _ c.requires.1 c.requires.2 c.requires.0, front_same)
