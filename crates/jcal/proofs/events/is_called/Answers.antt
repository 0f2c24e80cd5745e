-- `jcal::events::is_called` meets its contract.
use mathlib.Core.Path.{sym, ◌∙◌}
use borrow.Author.Tests.{lt-leb}
use Rattle.octets.proofs.Cases.{never}
use Rattle.jcal.proofs.Heads.{called-short, called-other, called-here, not-not}
use Rattle.jcal.proofs.events.is_called.Goals.{then-n-line, else-n-line}
use Rattle.jcal.proofs.events.is_called.Goals as goal

pub returns-then-ends_name : goal.returns-then-ends_name
returns-then-ends_name c = elim c.if-n-line.branch [
  | then-n-line w ↦ c.same_name.ensures ∙ called-here c.args.line.now c.args.name.now c.requires (not-not _ _ (sym w.ends_name.ensures ∙ sym w.value-is ∙ c.if-ends_name.true))
  | else-n-line w ↦ never c.if-ends_name.true (w.value-is ∙ lt-leb _ _ w.if-n-line.false)
]

pub returns-else-ends_name : goal.returns-else-ends_name
returns-else-ends_name c = c.if-ends_name.false ∙ elim c.if-n-line.branch [
  | then-n-line w ↦ sym (called-other c.args.line.now c.args.name.now (not-not _ _ (sym w.ends_name.ensures ∙ sym w.value-is ∙ c.if-ends_name.false)))
  | else-n-line w ↦ sym (called-short c.args.line.now c.args.name.now w.if-n-line.false)
]
