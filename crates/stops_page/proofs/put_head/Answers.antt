-- `stops_page::put_head` meets its contract.
use Rattle.octets.proofs.Pen.{then}
use Rattle.stops_page.specs.Printing.{head_shown}
use Rattle.stops_page.proofs.put_head.Goals as goal

pub returns : goal.returns
unfolding head_shown
returns c = let put_all_lem = c.put_all-a in
    let put-decimal = c.put_decimal-b in
    then put_all_lem.ensures (then put-decimal.ensures c.put.ensures)
