-- `ical_skeleton::components::shape_of` meets its contract.
use mathlib.Core.Path.{sym, ◌∙◌}
use Rattle.octets.proofs.Limits.{most-open}
use Rattle.ical_skeleton.proofs.Depths.{calendar-is, calendar-not}
use Rattle.ical_skeleton.proofs.components.shape_of.Goals as goal

pub returns-in_err-n : goal.returns-in_err-n
returns-in_err-n c = rw c.from_residual.ensures (calendar-not _ 32 (sym most-open) c.in_err-n.ensures)

pub returns-then-not-same : goal.returns-then-not-same
returns-then-not-same c = calendar-is _ c.after-a.ensures c.text_at-x.ensures 32 (sym most-open) c.in_ok-n.ensures.0 ∙ sym c.same.ensures ∙ c.if-not-same.true

pub returns : goal.returns
returns c = let n = c.in_ok-n.ensures in
    (calendar-is _ c.after-a.ensures c.text_at-x.ensures 32 (sym most-open) n.0 ∙ sym c.same.ensures ∙ c.if-not-same.false, rw most-open n.1)
