-- `octets::put_trimmed` meets its contract.
use mathlib.Core.Path.{sym, ◌∙◌}
use Rattle.octets.proofs.Pen.{as-text}
use Rattle.octets.proofs.Positions.{from}
use Rattle.octets.proofs.numbers.put_trimmed.Goals as goal

pub returns : goal.returns
returns c = as-text c.put_all.ensures (from c.args.s.now _ ∙ sym c.leading_zeros-zeros.ensures.1)
