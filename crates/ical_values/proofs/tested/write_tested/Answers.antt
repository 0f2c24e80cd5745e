-- `ical_values::tested::write_tested` meets its contract.
use mathlib.Core.Path.{sym, ◌∙◌}
use Rattle.octets.proofs.Pen.{front_same}
use Rattle.values.specs.Coded.{sort_said}
use Rattle.ical_recur.proofs.Room.{room, too_short, long-enough}
use Rattle.ical_values.proofs.PropertyValues.{rule-stop, rule-more, rule-alone}
use Rattle.ical_values.proofs.tested.write_tested.Goals as goal

pub returns-then-rule-t : goal.returns-then-rule-t
returns-then-rule-t c = (too_short _ _ _ c.if-rule-t.true, front_same)

pub returns-in_default : goal.returns-in_default
returns-in_default c = rw (room _ _ c.if-rule-t.false) c.write_values.ensures

pub returns-then-tag : goal.returns-then-tag
unfolding sort_said
returns-then-tag c = rw (room _ _ c.if-rule-t.false, c.in-Recur.is) (rule-more _ _ _ c.behind-e.ensures (λ z. c.if-tag.true (c.tag.ensures ∙ z)), front_same)

pub returns : goal.returns
unfolding sort_said
returns c = let w = c.in_ok-q.ensures in
    let h = c.if-rule-t.false in
    rw (room _ _ h, c.in-Recur.is) (rule-alone _ _ _ c.behind-e.ensures (sym (long-enough _ _ _ h) ∙ w.0) w.1 (sym c.tag.ensures ∙ c.if-tag.false) c.after.ensures)

pub returns-in_err-q : goal.returns-in_err-q
unfolding sort_said
returns-in_err-q c = let w = c.in_err-q.ensures in
    let h = c.if-rule-t.false in
    rw (room _ _ h, c.in-Recur.is) (rw c.from_residual.ensures (rule-stop _ _ _ (sym (long-enough _ _ _ h) ∙ w.0), w.1))
