-- A page has room in the buffer.
use Rattle.std.proofs.Common.{arith}
use Rattle.stops_page.proofs.Lengths.{page-end}
use Rattle.stops.proofs.main.Goals as goal

pub slice_bounds-write_all-end : goal.slice_bounds-write_all-end
slice_bounds-write_all-end c = omega (arith, page-end _ _ _ _ (omega arith) c.print_page-m.ensures)
