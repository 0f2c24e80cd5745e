-- `json_text::numbers::past_exponent` meets its contract.
use mathlib.Core.Path.{sym, ap, ◌∙◌}
use native.Mathlib.Omega.{arith}
use Rattle.octets.proofs.Positions.{from}
use Rattle.octets.proofs.Runs.{inside_is}
use Rattle.json_text.specs.Numbers.{scan, e as behind_e}
use Rattle.json_text.specs.Promise.{behind}
use Rattle.json_text.proofs.NumberLaws.{exponent-some, exponent-none, behind-by}
use Rattle.json_text.proofs.numbers.past_exponent.Goals as goal
use Rattle.json_text.proofs.numbers.past_exponent.Goals.{in_default-via-then-text-lt1, in_default-via-else-text-lt1+in_default-1}

pub returns-in-101 : goal.returns-in-101
returns-in-101 c = behind-by (exponent-some c.args.text.now 0 (λ n. grind (arith, n, c.in-101)) ∙ ap (scan behind_e) (sym (from c.args.text.now 1))) c.past_power.ensures

pub returns-in_default : goal.returns-in_default
returns-in_default c = behind (exponent-none c.args.text.now 0 (λ h. elim c.in_default.branch [ in_default-via-then-text-lt1 w ↦ grind (arith, inside_is c.args.text.now 0 101 h (omega arith), w) | in_default-via-else-text-lt1+in_default-1 w ↦ grind (arith, h, w) ]) (λ h. elim c.in_default.branch [ in_default-via-then-text-lt1 w ↦ grind (arith, inside_is c.args.text.now 0 69 h (omega arith), w) | in_default-via-else-text-lt1+in_default-1 w ↦ grind (arith, h, w) ]))
