-- `jcal_values::forms::put_tested_form` meets its contract.
use Prim.Native.Char.{code}
use mathlib.Core.List.{[], ◌∷◌, ◌++◌}
use mathlib.Core.Path.{sym, ap, ◌∙◌}
use Rattle.octets.specs.Classes.{upper}
use Rattle.octets.specs.Optional.{said}
use Rattle.octets.proofs.Pen.{as-text, front_same}
use Rattle.values.proofs.Halves.{wrapped}
use Rattle.jcal_values.proofs.FormStrings.{form-none, form-written}
use Rattle.jcal_values.proofs.forms.put_tested_form.Goals as goal

pub returns-in_default : goal.returns-in_default
returns-in_default c = (form-none c.args.form _ (ap said (sym c.in_default.is) ∙ c.extended.ensures), front_same)

pub returns : goal.returns
returns c =
    form-written c.args.form (upper c.args.s.now) c.in-Some.t (ap said (sym c.in-Some.is) ∙ c.extended.ensures)
    (as-text (wrapped _ _ c.put-first.ensures c.put_all-close.ensures c.put.ensures) (ap (λ l. code "\"" ∷ (l ++ code "\"" ∷ [])) c.as_slice.ensures))
