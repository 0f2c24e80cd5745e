-- `jcal_values::forms::put_end` meets its contract.
use mathlib.Core.Path.{sym, ◌∙◌}
use Rattle.octets.proofs.Pen.{as-text}
use Rattle.values.specs.Shown.{end_shown}
use Rattle.jcal_values.proofs.Quoting.{end-moment, end-other}
use Rattle.jcal_values.proofs.forms.put_end.Goals as goal

pub returns-then-is_basic : goal.returns-then-is_basic
returns-then-is_basic c = unfold end_shown in as-text c.put_form.ensures (end-moment _ _ (sym c.is_basic.ensures ∙ c.if-is_basic.true))

pub returns : goal.returns
returns c = unfold end_shown in as-text c.put_upper_string.ensures (end-other _ _ (sym c.is_basic.ensures ∙ c.if-is_basic.false))
