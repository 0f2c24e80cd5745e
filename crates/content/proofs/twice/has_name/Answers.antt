-- `content::twice::has_name` meets its contract.
use mathlib.Core.Path.{refl, sym, ◌∙◌}
use Rattle.content.proofs.ParamPlaces.{no-name, among-here, among-on}
use Rattle.content.proofs.twice.has_name.Goals as goal

pub loop-p-init : goal.loop-p-init
loop-p-init c = refl

pub returns-then-same_name : goal.returns-then-same_name
returns-then-same_name c = sym (c.loop-p.invariant ∙ among-here _ _ _ _ _ c.in-Some.ensures.1 (sym c.same_name.ensures ∙ c.if-same_name.true))

pub loop-p-preserved : goal.loop-p-preserved
loop-p-preserved c = c.loop-p.invariant ∙ among-on _ _ _ _ _ c.in-Some.ensures.1 (sym c.same_name.ensures ∙ c.if-same_name.false)

pub returns : goal.returns
returns c = sym (c.loop-p.invariant ∙ no-name _ _ c.in_default.ensures)
