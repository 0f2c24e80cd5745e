-- `jcal::events::ends_name` meets its contract.
use mathlib.Core.Bool.{not}
use mathlib.Core.Path.{sym, ◌∙◌, ap}
use borrow.Author.Tests.{eqb-true, eqb-false, le-leb}
use Rattle.octets.proofs.Cases.{never}
use Rattle.jcal.proofs.Heads.{ends-none, ends-semicolon, ends-colon, not-twice}
use Rattle.jcal.proofs.events.ends_name.Goals.{then-line-n, else-line-n}
use Rattle.jcal.proofs.events.ends_name.Goals as goal

pub returns-then-line-n-eq59 : goal.returns-then-line-n-eq59
returns-then-line-n-eq59 c = elim c.if-line-n.branch [
  | then-line-n w ↦ c.if-line-n-eq59.true ∙ sym (ap not (ends-none c.args.line.now c.args.n w.if-line-n.true))
  | else-line-n w ↦ c.if-line-n-eq59.true ∙ sym (ap not (ends-semicolon c.args.line.now c.args.n w.if-line-n.false (eqb-true _ _ (sym w.value-is ∙ c.if-line-n-eq59.true))))
]

pub returns-else-line-n-eq59 : goal.returns-else-line-n-eq59
returns-else-line-n-eq59 c = elim c.if-line-n.branch [
  | then-line-n w ↦ never (w.value-is ∙ le-leb _ _ w.if-line-n.true) c.if-line-n-eq59.false
  | else-line-n w ↦ sym (ap not (ends-colon c.args.line.now c.args.n w.if-line-n.false (eqb-false _ _ (sym w.value-is ∙ c.if-line-n-eq59.false))) ∙ not-twice _)
]
