-- `content::params::value_type` meets its contract.
use mathlib.Core.Path.{refl, sym, ◌∙◌}
use Rattle.std.proofs.lemmas.Option.{IfSome_then}
use Rattle.std.proofs.lemmas.Result.{IfOk-weaker}
use Rattle.content.specs.Kinds.{value_type_said}
use Rattle.content.proofs.ParamAnswers.{type-none, type-here, type-on}
use Rattle.content.proofs.Standing.{stands-whole, stands-through}
use Rattle.content.proofs.params.value_type.Goals as goal

pub loop-p-init : goal.loop-p-init
loop-p-init c = record { same = refl; stands = stands-whole _ }

pub returns-then-same_name-clause-said : goal.returns-then-same_name-clause-said
returns-then-same_name-clause-said c = c.type_named.ensures.said ∙ sym (c.loop-p.invariant.same ∙ type-here _ _ _ _ c.in-Some.ensures.1 (sym c.same_name.ensures ∙ c.if-same_name.true))

pub returns-then-same_name-clause-within : goal.returns-then-same_name-clause-within
returns-then-same_name-clause-within c =
    IfOk-weaker c.type_named.result _ _
    (λ stated h. IfSome_then stated h (λ t k. stands-through _ _ _ c.loop-p.invariant.stands (stands-through _ _ _ c.in-Some.ensures.2 k)))
    c.type_named.ensures.within

pub loop-p-preserved : goal.loop-p-preserved
loop-p-preserved c = record {
  same = c.loop-p.invariant.same ∙ type-on _ _ _ _ c.in-Some.ensures.1 (sym c.same_name.ensures ∙ c.if-same_name.false);
  stands = stands-through _ _ _ c.loop-p.invariant.stands c.in-Some.ensures.3;
}

pub returns-clause-said : goal.returns-clause-said
unfolding value_type_said
returns-clause-said c = type-none _ c.in_default.ensures ∙ sym c.loop-p.invariant.same
