-- `octets::upper_octet` meets its contract.
use Prim.Native.Char.{code}
use mathlib.Core.Path.{sym, ◌∙◌}
use native.Mathlib.Omega.{arith}
use Rattle.octets.specs.Classes.{is_lower, upper_octet}
use Rattle.octets.proofs.Classes.{between-true}
use Rattle.octets.proofs.names.upper_octet.Goals as goal

pub overflow_sub-result : goal.overflow_sub-result
unfolding is_lower
overflow_sub-result c = omega (arith, (between-true (code "a") (code "z") _ (sym c.is_lower.ensures ∙ c.if-is_lower.true)).0)

pub returns-then-is_lower : goal.returns-then-is_lower
unfolding upper_octet
returns-then-is_lower c = rw (sym c.is_lower.ensures ∙ c.if-is_lower.true)

pub returns-else-is_lower : goal.returns-else-is_lower
unfolding upper_octet
returns-else-is_lower c = rw (sym c.is_lower.ensures ∙ c.if-is_lower.false)
