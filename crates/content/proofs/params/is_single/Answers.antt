-- `content::params::is_single` meets its contract.
use mathlib.Core.Path.{sym}
use Rattle.content.proofs.ParamAnswers.{single-told}
use Rattle.content.proofs.params.is_single.Goals as goal

pub returns : goal.returns
returns c = sym (single-told c.args.values.now c.next_bare.result c.next_bare.ensures)
