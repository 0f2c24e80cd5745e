-- `content::fold::fold_octet` meets its contract.
use mathlib.Core.Path.{sym, ◌∙◌}
use native.Mathlib.Omega.{arith}
use Rattle.octets.proofs.Limits.{most-columns}
use Rattle.content.proofs.Folding.{one-broken, one_plain}
use Rattle.content.proofs.fold.fold_octet.Goals as goal

pub returns-then-breaks : goal.returns-then-breaks
returns-then-breaks c = one-broken (sym c.breaks.ensures ∙ c.if-breaks.true) c.put_all-to.ensures c.put-at.ensures

pub returns-then-p-lt-MOST_COLUMNS : goal.returns-then-p-lt-MOST_COLUMNS
returns-then-p-lt-MOST_COLUMNS c = one_plain (sym c.breaks.ensures ∙ c.if-breaks.false) (omega (arith, most-columns)) c.put-at-2.ensures

pub returns-else-p-lt-MOST_COLUMNS : goal.returns-else-p-lt-MOST_COLUMNS
returns-else-p-lt-MOST_COLUMNS c = one_plain (sym c.breaks.ensures ∙ c.if-breaks.false) (omega (arith, most-columns)) c.put-at-2.ensures
