-- `json_text::quoting::put_escaped` meets its contract.
use mathlib.Core.Path.{sym}
use Rattle.octets.proofs.Pen.{then, as-text}
use Rattle.json_text.proofs.quoting.put_escaped.Goals as goal

pub returns-in-None : goal.returns-in-None
returns-in-None c = as-text c.put.ensures (sym c.in-None.ensures)

pub returns-in-Some : goal.returns-in-Some
returns-in-Some c = as-text (then c.put-q.ensures c.put-in-Some.ensures) (sym c.in-Some.ensures)
