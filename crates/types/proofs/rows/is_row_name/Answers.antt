-- `types::rows::is_row_name` meets its contract.
use mathlib.Core.Path.{refl, sym, ◌∙◌}
use Rattle.std.proofs.Common.{rules}
use Rattle.octets.proofs.Classes.{all-on, all-stop, all_end}
use Rattle.types.proofs.rows.is_row_name.Goals as goal

pub loop-c-init : goal.loop-c-init
loop-c-init c = refl

pub returns-then-not-is_row_octet : goal.returns-then-not-is_row_octet
returns-then-not-is_row_octet c = sym (c.loop-c.invariant ∙ all-stop _ _ _ c.loop-c-test.true (sym c.is_row_octet.ensures ∙ search rules))

pub loop-c-preserved : goal.loop-c-preserved
loop-c-preserved c = c.loop-c.invariant ∙ all-on _ _ _ c.loop-c-test.true (sym c.is_row_octet.ensures ∙ search rules)

pub returns : goal.returns
returns c = sym (c.loop-c.invariant ∙ all_end _ _ _ c.loop-c-test.false)
