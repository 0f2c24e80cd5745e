-- `octets::put_decimal` meets its contract: those in front are written first, then the last.
use Rattle.std.proofs.Common.{sym, arith}
use Rattle.octets.proofs.Decimal.{decimal-one, decimal-last}
use Rattle.octets.proofs.Pen.{then, as-text}
use Rattle.octets.proofs.numbers.+put_decimal.Goals as goal

pub returns-then-n-lt10 : goal.returns-then-n-lt10
returns-then-n-lt10 t c = as-text c.put.ensures (sym (decimal-one _ (omega arith)))

pub returns : goal.returns
returns t c = as-text (then c.put_decimal-to.ensures c.put-2.ensures) (sym (decimal-last _ (omega arith) (omega arith)))
