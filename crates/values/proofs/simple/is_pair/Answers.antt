-- `values::simple::is_pair` meets its contract.
use mathlib.Core.Path.{sym}
use Rattle.values.proofs.Halves.{no-pair, pair-more}
use Rattle.values.proofs.simple.is_pair.Goals as goal

pub returns-then-e-s : goal.returns-then-e-s
returns-then-e-s c = sym (no-pair _ _ _ c.find-e.ensures c.if-e-s.true)

pub returns : goal.returns
returns c = pair-more _ _ _ c.find-e.ensures c.if-e-s.false _ c.find.ensures
