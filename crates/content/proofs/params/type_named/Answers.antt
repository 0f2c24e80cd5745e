-- `content::params::type_named` meets its contract.
use mathlib.Core.Path.{sym, ◌∙◌}
use Rattle.content.specs.Kinds.{value_type_said}
use Rattle.content.proofs.ParamAnswers.{token-several, token-no-name, token-unknown, token-named}
use Rattle.content.proofs.ParamValues.{unquote-stands}
use Rattle.content.proofs.params.type_named.Goals as goal

pub returns-then-not-is_single-clause-said : goal.returns-then-not-is_single-clause-said
unfolding value_type_said
returns-then-not-is_single-clause-said c = token-several c.args.values.now (sym c.is_single.ensures ∙ c.if-not-is_single.true)

pub returns-then-not-is_name-clause-said : goal.returns-then-not-is_name-clause-said
unfolding value_type_said
returns-then-not-is_name-clause-said c = token-no-name c.args.values.now (sym c.is_single.ensures ∙ c.if-not-is_single.false) _ c.unquoted-value.ensures (sym c.is_name.ensures ∙ c.if-not-is_name.true)

pub returns-then-same_name-clause-said : goal.returns-then-same_name-clause-said
unfolding value_type_said
returns-then-same_name-clause-said c = token-unknown c.args.values.now (sym c.is_single.ensures ∙ c.if-not-is_single.false) _ c.unquoted-value.ensures (sym c.is_name.ensures ∙ c.if-not-is_name.false) (sym c.same_name.ensures ∙ c.if-same_name.true)

pub returns-clause-said : goal.returns-clause-said
unfolding value_type_said
returns-clause-said c = token-named c.args.values.now (sym c.is_single.ensures ∙ c.if-not-is_single.false) _ c.unquoted-value.ensures (sym c.is_name.ensures ∙ c.if-not-is_name.false) (sym c.same_name.ensures ∙ c.if-same_name.false)

pub returns-clause-within : goal.returns-clause-within
returns-clause-within c = rw c.unquoted-value.ensures (unquote-stands c.args.values.now)
