-- `stops_page::put_stop` meets its contract.
use Prim.Native.Nat.{ℕ}
use native.Mathlib.Omega.{arith}
use lib.ListN.{length-take}
use Rattle.octets.proofs.Pen.{then, as-text}
use Rattle.stops_page.specs.Printing.{stop_shown, moment_shown}
use Rattle.stops_page.proofs.StopTexts.{shown-front, shown-short}
use Rattle.stops_page.proofs.put_stop.Goals as goal

pub slice_bounds-text-end : goal.slice_bounds-text-end
slice_bounds-text-end c = omega (arith, shown-short _ _ c.shown_length-n.ensures)

pub slice_bounds-put_all-end : goal.slice_bounds-put_all-end
slice_bounds-put_all-end c = omega (arith, length-take {A = ℕ}, shown-short _ _ c.shown_length-n.ensures)

pub returns : goal.returns
unfolding stop_shown moment_shown
returns c = let text = c.moment_text-text.ensures in
    let n = c.shown_length-n.ensures in
    then c.put_decimal-a.ensures (then c.put-b.ensures (then (as-text c.put_all-c.ensures (shown-front _ _ _ _ n text)) c.put.ensures))
