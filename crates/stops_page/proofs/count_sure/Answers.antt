-- `stops_page::count_sure` meets its contract: what is sure, or a walk.
use Rattle.stops_page.proofs.Counts.{sure-count}
use Rattle.stops_page.proofs.count_sure.Goals as goal

pub returns-then-run-sure : goal.returns-then-run-sure
returns-then-run-sure c = sure-count _ _ c.requires.1 c.if-run-sure.true
