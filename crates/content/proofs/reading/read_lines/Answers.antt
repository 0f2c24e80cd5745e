-- `content::reading::read_lines` meets its contract.
use mathlib.Core.Path.{sym, ◌∙◌}
use Rattle.content.proofs.LinesRead.{read_none, read-unclean, read-unformed, read-laid}
use Rattle.content.proofs.reading.read_lines.Goals as goal

pub returns-then-buf-n : goal.returns-then-buf-n
returns-then-buf-n c = read_none _ _ _ _ c.unfold-n.ensures c.if-buf-n.true

pub returns-then-not-all_clean : goal.returns-then-not-all_clean
returns-then-not-all_clean c = read-unclean _ _ _ _ c.unfold-n.ensures c.if-buf-n.false (sym c.all_clean.ensures ∙ c.if-not-all_clean.true)

pub returns-then-not-all_formed : goal.returns-then-not-all_formed
returns-then-not-all_formed c = read-unformed _ _ _ _ c.unfold-n.ensures c.if-buf-n.false (sym c.all_clean.ensures ∙ c.if-not-all_clean.false) (sym c.all_formed.ensures ∙ c.if-not-all_formed.true)

pub returns : goal.returns
returns c = read-laid _ _ _ _ c.unfold-n.ensures c.if-buf-n.false (sym c.all_clean.ensures ∙ c.if-not-all_clean.false) (sym c.all_formed.ensures ∙ c.if-not-all_formed.false)
