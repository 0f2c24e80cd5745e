-- `json_text::numbers::past_whole` meets its contract.
use mathlib.Core.Path.{sym, ap, ◌∙◌}
use native.Mathlib.Omega.{arith}
use Rattle.octets.proofs.Positions.{from}
use Rattle.octets.proofs.Runs.{inside_is}
use Rattle.json_text.specs.Numbers.{scan, point}
use Rattle.json_text.proofs.NumberLaws.{whole-point, whole-bare, behind-by}
use Rattle.json_text.proofs.numbers.past_whole.Goals as goal
use Rattle.json_text.proofs.numbers.past_whole.Goals.{in_default-via-then-text-lt1, in_default-via-else-text-lt1+in_default-1}

pub returns-in-46 : goal.returns-in-46
returns-in-46 c = behind-by (whole-point c.args.text.now 0 (omega arith) ∙ ap (scan point) (sym (from c.args.text.now 1))) c.past_fraction.ensures

pub returns-in_default : goal.returns-in_default
returns-in_default c = behind-by (whole-bare c.args.text.now 0 (λ h. elim c.in_default.branch [ in_default-via-then-text-lt1 w ↦ grind (arith, inside_is c.args.text.now 0 46 h (omega arith), w) | in_default-via-else-text-lt1+in_default-1 w ↦ grind (arith, h, w) ])) c.past_exponent.ensures
