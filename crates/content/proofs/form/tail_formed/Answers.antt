-- `content::form::tail_formed` meets its contract.
use mathlib.Core.Path.{refl, sym, ◌∙◌}
use native.Mathlib.Omega.{arith}
use Rattle.content.proofs.PlaceSpans.{tail-end, tail-colon, tail-comma, tail-semicolon, tail-lost}
use Rattle.content.proofs.form.tail_formed.Goals as goal

pub loop-rest-init : goal.loop-rest-init
loop-rest-init c = refl

pub returns-in-58 : goal.returns-in-58
returns-in-58 c = sym (c.loop-rest.invariant ∙ tail-colon c.loop-rest.rest.now 0 (omega arith) (omega arith))

pub loop-rest-preserved-in-44 : goal.loop-rest-preserved-in-44
loop-rest-preserved-in-44 c = c.loop-rest.invariant ∙ tail-comma c.loop-rest.rest.now (omega arith) (omega arith) _ c.value_end.ensures

pub loop-rest-preserved : goal.loop-rest-preserved
loop-rest-preserved c = c.loop-rest.invariant ∙ tail-semicolon c.loop-rest.rest.now (omega arith) (omega arith) _ c.param_end.ensures

pub returns-in_default-c : goal.returns-in_default-c
returns-in_default-c c = sym (c.loop-rest.invariant ∙ tail-lost c.loop-rest.rest.now 0 (omega arith) (λ e. omega arith) (λ e. omega arith) (λ e. omega arith))

pub returns : goal.returns
returns c = sym (c.loop-rest.invariant ∙ tail-end c.loop-rest.rest.now 0 (omega arith))
