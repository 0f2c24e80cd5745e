-- `jcal_texts::step_at` meets its contract.
use mathlib.Core.Path.{sym, ◌∙◌}
use Rattle.jcal_texts.proofs.TextRuns.{step-escape, step-wrong, step-separator, step_other, step-control, step-octet}
use Rattle.jcal_texts.proofs.step_at.Goals as goal
use Rattle.jcal_texts.proofs.step_at.Goals.{then-c-other-via-then-c-other, then-c-other-via-else-c-other+then-not-is_plain_octet}

pub returns-in_err-d : goal.returns-in_err-d
returns-in_err-d c = rw c.from_residual.ensures (step-wrong _ _ _ _ c.requires c.if-c-eq92.true (rw c.peek.ensures at c.in_err-d.ensures c.args.sep c.args.other))

pub returns-then-c-eq92 : goal.returns-then-c-eq92
returns-then-c-eq92 c = step-escape _ _ _ _ c.requires c.if-c-eq92.true _ (rw c.peek.ensures at c.in_ok-d.ensures c.args.sep c.args.other)

pub returns-then-c-sep : goal.returns-then-c-sep
returns-then-c-sep c = step-separator _ _ _ _ c.requires c.if-c-eq92.false c.if-c-sep.true

pub returns-then-c-other : goal.returns-then-c-other
returns-then-c-other c = elim c.then-c-other.branch [
  | then-c-other-via-then-c-other w ↦ step_other _ _ _ _ c.requires c.if-c-eq92.false c.if-c-sep.false w.if-c-other.true
  | then-c-other-via-else-c-other+then-not-is_plain_octet w ↦ step-control _ _ _ _ c.requires c.if-c-eq92.false c.if-c-sep.false w.if-c-other.false (sym w.is_plain_octet.ensures ∙ w.if-not-is_plain_octet.true)
]

pub returns : goal.returns
returns c = step-octet _ _ _ _ c.requires c.if-c-eq92.false c.if-c-sep.false c.if-c-other.false (sym c.is_plain_octet.ensures ∙ c.if-not-is_plain_octet.false)
