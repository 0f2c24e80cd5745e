-- `values::simple::put_geo` meets its contract.
use mathlib.Core.Path.{ap}
use Rattle.octets.proofs.Pen.{as-text}
use Rattle.values.specs.Shown.{float_shown, geo_shown}
use Rattle.values.proofs.Halves.{found-le, first-half, second-half, arrayed}
use Rattle.values.proofs.simple.put_geo.Goals as goal

pub slice_bounds-put_float-end : goal.slice_bounds-put_float-end
slice_bounds-put_float-end c = found-le _ _ _ c.find-e.ensures

pub returns : goal.returns
unfolding geo_shown
returns c = arrayed _ _ c.put-first.ensures (as-text c.put_float-comma.ensures (ap float_shown (first-half _ _ _ c.find-e.ensures))) c.put-second.ensures (as-text c.put_float-close.ensures (ap float_shown (second-half _ _ _ c.find-e.ensures _ c.past-from.ensures.1))) c.put.ensures
