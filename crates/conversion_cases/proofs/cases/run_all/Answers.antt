-- A line ends within the index.
use Rattle.std.proofs.Common.{arith}
use Rattle.content.specs.Lines.{is_lf}
use Rattle.octets.proofs.Search.{scan-high}
use Rattle.conversion_cases.proofs.cases.run_all.Goals as goal

pub slice_bounds-run-end : goal.slice_bounds-run-end
slice_bounds-run-end g c = scan-high is_lf _ _ _ c.line_end-e.ensures (omega arith)
