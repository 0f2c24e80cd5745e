-- `content::lines::all_clean` meets its contract.
use Rattle.content.proofs.CleanLines.{clean-lines}
use Rattle.content.proofs.lines.all_clean.Goals as goal

pub returns-then-not-is_utf8 : goal.returns-then-not-is_utf8
returns-then-not-is_utf8 c = rw (clean-lines, ← c.is_utf8.ensures, c.if-not-is_utf8.true)

pub returns : goal.returns
returns c = rw (clean-lines, ← c.is_utf8.ensures, c.if-not-is_utf8.false) c.all_text.ensures
