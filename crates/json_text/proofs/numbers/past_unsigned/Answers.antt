-- `json_text::numbers::past_unsigned` meets its contract.
use mathlib.Core.Path.{refl, sym, ap, ◌∙◌}
use native.Mathlib.Omega.{arith}
use Rattle.octets.proofs.Positions.{from}
use Rattle.octets.proofs.Runs.{inside_is}
use Rattle.json_text.specs.Numbers.{scan, zero}
use Rattle.json_text.specs.Promise.{nothing}
use Rattle.json_text.proofs.NumberLaws.{unsigned-zero, unsigned-none, behind-by, no-digit, unsigned-behind}
use Rattle.json_text.proofs.numbers.past_unsigned.Goals as goal
use Rattle.json_text.proofs.numbers.past_unsigned.Goals.{in_default-via-then-text-lt1, in_default-via-else-text-lt1+in_default-1}

pub returns-in-48 : goal.returns-in-48
returns-in-48 c = behind-by (unsigned-zero c.args.text.now 0 (omega arith) ∙ ap (scan zero) (sym (from c.args.text.now 1))) c.past_whole.ensures

pub returns-in_err-past_digits-in_default : goal.returns-in_err-past_digits-in_default
returns-in_err-past_digits-in_default c = rw c.from_residual.ensures (nothing (unsigned-none c.args.text.now (no-digit c.past_digits.ensures c.in_err-past_digits-in_default.was) (λ h. elim c.in_default.branch [ in_default-via-then-text-lt1 w ↦ grind (arith, inside_is c.args.text.now 0 48 h (omega arith), w) | in_default-via-else-text-lt1+in_default-1 w ↦ grind (arith, h, w) ]) refl))

pub returns-in_ok-past_digits-in_default : goal.returns-in_ok-past_digits-in_default
returns-in_ok-past_digits-in_default c = unsigned-behind (λ h. elim c.in_default.branch [ in_default-via-then-text-lt1 w ↦ grind (arith, inside_is c.args.text.now 0 48 h (omega arith), w) | in_default-via-else-text-lt1+in_default-1 w ↦ grind (arith, h, w) ]) c.past_digits.ensures c.in_ok-past_digits-in_default.was c.past_whole-in_default.ensures
