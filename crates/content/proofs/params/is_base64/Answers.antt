-- `content::params::is_base64` meets its contract.
use mathlib.Core.Path.{sym, ◌∙◌}
use Rattle.content.proofs.ParamAnswers.{base64-several, base64-one}
use Rattle.content.proofs.params.is_base64.Goals as goal

pub returns-then-not-is_single : goal.returns-then-not-is_single
returns-then-not-is_single c = base64-several c.args.values.now (sym c.is_single.ensures ∙ c.if-not-is_single.true)

pub returns : goal.returns
returns c = c.same_name.ensures ∙ base64-one c.args.values.now (sym c.is_single.ensures ∙ c.if-not-is_single.false) _ c.unquoted.ensures
