-- `content::lines::without_cr` meets its contract.
use native.Mathlib.Omega.{arith}
use Rattle.content.proofs.LineRuns.{trim-cr, trim-not}
use Rattle.content.proofs.lines.without_cr.Goals as goal

pub returns-in-13 : goal.returns-in-13
returns-in-13 c = trim-cr c.args.run.now (omega arith) (omega arith)

pub returns-in_default : goal.returns-in_default
returns-in_default c = trim-not c.args.run.now (λ h q. omega arith)

pub returns-in_default-2 : goal.returns-in_default-2
returns-in_default-2 c = trim-not c.args.run.now (λ h q. omega arith)
