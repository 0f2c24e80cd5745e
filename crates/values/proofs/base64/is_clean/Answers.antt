-- `values::base64::is_clean` meets its contract.
use mathlib.Core.Path.{sym, ◌∙◌}
use Rattle.octets.specs.Utf8.{clean}
use Rattle.values.proofs.base64.is_clean.Goals as goal

pub returns-then-is_utf8 : goal.returns-then-is_utf8
returns-then-is_utf8 c = unfold clean in rw (sym c.is_utf8.ensures ∙ c.if-is_utf8.true) c.all_plain.ensures

pub returns-else-is_utf8 : goal.returns-else-is_utf8
returns-else-is_utf8 c = unfold clean in rw (sym c.is_utf8.ensures ∙ c.if-is_utf8.false, c.if-is_utf8.false)
