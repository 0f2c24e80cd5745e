-- `json_text::numbers::past_power` meets its contract.
use mathlib.Core.Path.{sym, ap, ◌∙◌}
use native.Mathlib.Omega.{arith}
use Rattle.octets.proofs.Positions.{from}
use Rattle.octets.proofs.Runs.{inside_is}
use Rattle.json_text.specs.Numbers.{scan, sign}
use Rattle.json_text.proofs.NumberLaws.{power-sign, power-bare, behind-by}
use Rattle.json_text.proofs.numbers.past_power.Goals as goal
use Rattle.json_text.proofs.numbers.past_power.Goals.{in_default-via-then-text-lt1, in_default-via-else-text-lt1+in_default-1}

pub returns-in-43 : goal.returns-in-43
returns-in-43 c = behind-by (power-sign c.args.text.now 0 (λ n. grind (arith, n, c.in-43)) ∙ ap (scan sign) (sym (from c.args.text.now 1))) c.past_sign.ensures

pub returns-in_default : goal.returns-in_default
returns-in_default c = behind-by (power-bare c.args.text.now 0 (λ h. elim c.in_default.branch [ in_default-via-then-text-lt1 w ↦ grind (arith, inside_is c.args.text.now 0 43 h (omega arith), w) | in_default-via-else-text-lt1+in_default-1 w ↦ grind (arith, h, w) ]) (λ h. elim c.in_default.branch [ in_default-via-then-text-lt1 w ↦ grind (arith, inside_is c.args.text.now 0 45 h (omega arith), w) | in_default-via-else-text-lt1+in_default-1 w ↦ grind (arith, h, w) ])) c.past_sign-in_default.ensures
