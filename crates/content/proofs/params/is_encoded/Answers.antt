-- `content::params::is_encoded` meets its contract.
use mathlib.Core.Path.{refl, sym, ◌∙◌}
use Rattle.content.proofs.ParamAnswers.{encoded-none, encoded-here, encoded-not, encoded-on}
use Rattle.content.proofs.params.is_encoded.Goals as goal

pub loop-p-init : goal.loop-p-init
loop-p-init c = refl

pub loop-p-preserved-then-not-same_name : goal.loop-p-preserved-then-not-same_name
loop-p-preserved-then-not-same_name c = c.loop-p.invariant ∙ encoded-on _ _ _ _ c.in-Some.ensures.1 (sym c.same_name.ensures ∙ c.if-not-same_name.true)

pub returns-then-is_base64 : goal.returns-then-is_base64
returns-then-is_base64 c = sym (c.loop-p.invariant ∙ encoded-here _ _ _ _ c.in-Some.ensures.1 (sym c.same_name.ensures ∙ c.if-not-same_name.false) (sym c.is_base64.ensures ∙ c.if-is_base64.true))

pub loop-p-preserved : goal.loop-p-preserved
loop-p-preserved c = c.loop-p.invariant ∙ encoded-not _ _ _ _ c.in-Some.ensures.1 (sym c.same_name.ensures ∙ c.if-not-same_name.false) (sym c.is_base64.ensures ∙ c.if-is_base64.false)

pub returns : goal.returns
returns c = sym (c.loop-p.invariant ∙ encoded-none _ c.in_default.ensures)
