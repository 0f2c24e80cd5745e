-- `content::fold::fold_run` meets its contract.
use borrow.Author.Tests.{ne_eqb}
use native.Mathlib.Omega.{arith}
use Rattle.octets.proofs.Limits.{most-columns}
use Rattle.content.proofs.Folding.{run-plain, run-upper}
use Rattle.content.proofs.fold.fold_run.Goals as goal

pub overflow_add-column : goal.overflow_add-column
overflow_add-column g c = omega (arith, most-columns)

pub returns-then-this-ne0 : goal.returns-then-this-ne0
returns-then-this-ne0 g c = rw (ne_eqb _ 0 c.if-this-ne0.true) (run-upper c.args.s.now c.requires c.put_upper-at.ensures)

pub returns : goal.returns
returns g c = rw c.if-this-ne0.false (run-plain c.requires c.put_all-at.ensures)
