-- `stops_page::chopped` meets its contract: by the last octet.
use Prim.Native.Nat.{◌-◌}
use native.Mathlib.Omega.{arith}
use lib.ListN.{length}
use Rattle.stops_page.proofs.InputLines.{chop-none, chop-return, chop-other}
use Rattle.stops_page.proofs.chopped.Goals as goal

pub returns-in-13 : goal.returns-in-13
returns-in-13 c = chop-return c.args.s.now (length c.args.s.now - 1) (omega arith) (omega arith)

pub returns-in_default : goal.returns-in_default
returns-in_default c = chop-none _ (omega arith)

pub returns-in_default-2 : goal.returns-in_default-2
returns-in_default-2 c = chop-other c.args.s.now (length c.args.s.now - 1) (omega arith) (λ e. omega arith)
