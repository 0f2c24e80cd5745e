-- `octets::put_cased` meets its contract.
use mathlib.Core.Path.{sym}
use native.Mathlib.Omega.{arith}
use Rattle.octets.proofs.Classes.{map-length}
use Rattle.octets.proofs.Pen.{placed}
use Rattle.octets.proofs.writing.put_cased.Goals as goal

pub returns-then-src-out : goal.returns-then-src-out
returns-then-src-out c = placed (omega arith) c.turn_into.ensures (sym (map-length _ _)) (omega arith)
