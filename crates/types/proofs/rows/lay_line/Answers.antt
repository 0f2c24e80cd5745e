-- `types::rows::lay_line` meets its contract.
use lib.ListN.{take}
use Rattle.types.proofs.Laying.{undecoded, decoded, no_row}
use Rattle.types.proofs.rows.lay_line.Goals as goal

pub returns-in_err-n : goal.returns-in_err-n
returns-in_err-n c = rw c.from_residual.ensures (no_row _ _ _ _ (undecoded (λ n. take n c.decode.new.frame) c.in_err-n.ensures.row))

pub returns : goal.returns
returns c = rw (← decoded (λ n. take n c.decode.new.frame) c.in_ok-n.n c.in_ok-n.ensures.row) c.lay_frame.ensures
