-- `octets::lower_octet` meets its contract.
use Prim.Native.Char.{code}
use mathlib.Core.Path.{sym, ◌∙◌}
use native.Mathlib.Omega.{arith}
use Rattle.octets.specs.Classes.{is_upper, lower_octet}
use Rattle.octets.proofs.Classes.{between-true}
use Rattle.octets.proofs.names.lower_octet.Goals as goal

pub overflow_add-result : goal.overflow_add-result
unfolding is_upper
overflow_add-result c = omega (arith, (between-true (code "A") (code "Z") _ (sym c.is_upper.ensures ∙ c.if-is_upper.true)).1)

pub returns-then-is_upper : goal.returns-then-is_upper
unfolding lower_octet
returns-then-is_upper c = rw (sym c.is_upper.ensures ∙ c.if-is_upper.true)

pub returns-else-is_upper : goal.returns-else-is_upper
unfolding lower_octet
returns-else-is_upper c = rw (sym c.is_upper.ensures ∙ c.if-is_upper.false)
