-- `content::lines::begun_after` meets its contract.
use Rattle.content.proofs.LineRuns.{filled-by}
use Rattle.content.proofs.lines.begun_after.Goals as goal

pub returns-else-begun : goal.returns-else-begun
returns-else-begun c = rw c.if-begun.false (filled-by c.args.run.now _ c.is_empty.ensures)
