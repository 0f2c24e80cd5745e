-- `jcal::events::has_bounds` meets its contract.
use Prim.Native.Nat.{◌+◌}
use mathlib.Core.Path.{ap, sym, ◌∙◌}
use borrow.Author.Tests.{eqb-true, eqb-false, le-ltb}
use Rattle.octets.proofs.Cases.{never}
use Rattle.octets.proofs.Positions.{from}
use Rattle.octets.specs.Classes.{is_name}
use Rattle.jcal.proofs.Heads.{bounds-colon, bounds-semicolon, bounds-none}
use Rattle.jcal.proofs.events.has_bounds.Goals.{then-n-line, else-n-line}
use Rattle.jcal.proofs.events.has_bounds.Goals as goal

pub returns-then-line-n-eq58 : goal.returns-then-line-n-eq58
returns-then-line-n-eq58 c = elim c.if-n-line.branch [
  | then-n-line w ↦ c.is_name.ensures ∙ ap is_name (from c.args.line.now (c.args.n + 1)) ∙ sym (bounds-colon c.args.line.now c.args.n c.requires w.if-n-line.true (eqb-true _ _ (sym w.value-is ∙ c.if-line-n-eq58.true)))
  | else-n-line w ↦ never c.if-line-n-eq58.true (w.value-is ∙ le-ltb _ _ w.if-n-line.false)
]

pub returns-else-line-n-eq58 : goal.returns-else-line-n-eq58
returns-else-line-n-eq58 c = c.if-line-n-eq58.false ∙ elim c.if-n-line.branch [
  | then-n-line w ↦ sym (bounds-semicolon c.args.line.now c.args.n c.requires w.if-n-line.true (eqb-false _ _ (sym w.value-is ∙ c.if-line-n-eq58.false)))
  | else-n-line w ↦ sym (bounds-none c.args.line.now c.args.n c.requires w.if-n-line.false)
]
