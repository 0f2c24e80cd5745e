-- `octets::is_filled` meets its contract.
use mathlib.Core.Path.{sym, ◌∙◌}
use borrow.Author.Tests.{eq-eqb, eqb-true}
use Rattle.octets.proofs.Classes.{filled_none, filled-some}
use Rattle.octets.proofs.names.is_filled.Goals as goal

pub returns-then-not-is_empty : goal.returns-then-not-is_empty
returns-then-not-is_empty c = rw (filled-some c.args.s.now (λ e. cc (eq-eqb _ _ e, c.is_empty.ensures, c.if-not-is_empty.true))) c.all_in.ensures

pub returns-else-not-is_empty : goal.returns-else-not-is_empty
returns-else-not-is_empty c = rw (filled_none c.args.s.now (eqb-true _ _ (sym c.is_empty.ensures ∙ c.if-not-is_empty.false)), c.if-not-is_empty.false)
