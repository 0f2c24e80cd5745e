-- `stops_page::put_page` meets its contract: the records up to the count are the definition's list.
use native.Mathlib.Omega.{arith}
use lib.ListN.{length-take}
use Rattle.stop_list.specs.declared.Stop.{Stop}
use Rattle.octets.proofs.Pen.{then, as-text}
use Rattle.stops_page.proofs.Answers.{page-bound, page-stops, page-refusal}
use Rattle.stops_page.proofs.put_page.Goals as goal

pub slice_bounds-put_list-end : goal.slice_bounds-put_list-end
slice_bounds-put_list-end c = page-bound _ _ _ _ _ c.in-Ok.ensures

pub slice_bounds-put_list-end-in-Ok : goal.slice_bounds-put_list-end-in-Ok
slice_bounds-put_list-end-in-Ok c = omega (arith, length-take {A = Stop}, page-bound _ _ _ _ _ c.in-Ok.ensures)

pub returns-in-Ok : goal.returns-in-Ok
returns-in-Ok c = as-text (then c.put_head-at.ensures c.put_list.ensures) (page-stops _ _ _ _ _ c.in-Ok.ensures)

pub returns-in-Err : goal.returns-in-Err
returns-in-Err c = as-text c.put_head.ensures (rw c.number.ensures (page-refusal _ _ _ _ _ c.in-Err.ensures))
