-- `jcal::events::end_at` meets its contract.
use native.Mathlib.Omega.{arith}
use Rattle.content.specs.Lines.{is_lf}
use Rattle.octets.proofs.Search.{scan-high}
use Rattle.jcal.proofs.events.end_at.Goals as goal

pub returns : goal.returns
returns c = record { within = c.requires; ends = c.line_end.ensures; high = scan-high is_lf _ _ _ c.line_end.ensures (omega arith) }
