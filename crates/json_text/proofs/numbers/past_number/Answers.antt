-- `json_text::numbers::past_number` meets its contract.
use mathlib.Core.Path.{sym, ap, ◌∙◌}
use native.Mathlib.Omega.{arith}
use Rattle.octets.proofs.Positions.{from}
use Rattle.octets.proofs.Runs.{inside_is}
use Rattle.json_text.specs.Numbers.{scan, minus}
use Rattle.json_text.proofs.NumberLaws.{number-minus, number-bare, behind-by}
use Rattle.json_text.proofs.numbers.past_number.Goals as goal
use Rattle.json_text.proofs.numbers.past_number.Goals.{in_default-via-then-text-lt1, in_default-via-else-text-lt1+in_default-1}

pub returns-in-45 : goal.returns-in-45
returns-in-45 c = behind-by (number-minus c.args.text.now 0 (omega arith) ∙ ap (scan minus) (sym (from c.args.text.now 1))) c.past_unsigned.ensures

pub returns-in_default : goal.returns-in_default
returns-in_default c = behind-by (number-bare c.args.text.now 0 (λ h. elim c.in_default.branch [ in_default-via-then-text-lt1 w ↦ grind (arith, inside_is c.args.text.now 0 45 h (omega arith), w) | in_default-via-else-text-lt1+in_default-1 w ↦ grind (arith, h, w) ])) c.past_unsigned-in_default.ensures
