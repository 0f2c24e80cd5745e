-- `recurrence_set::months::months_from` meets its contract. The loop goes from month to month: nothing was to be found before the day that it is at.
use native.Mathlib.Omega.{arith}
use mathlib.Core.Path.{refl, sym, ap, ◌∙◌}
use Rattle.octets.specs.Optional.{said}
use Rattle.recurrence_set.proofs.MonthSearch.{search-begins, search-past, search-ends, search-on, search-finds, month-said, month-past, length-short}
use Rattle.recurrence_set.proofs.months.months_from.Goals as goal

pub loop-at-init : goal.loop-at-init
loop-at-init c = (omega arith, search-begins _ _ _ _ _)

pub returns : goal.returns
returns c = λ q k h. search-past _ _ _ _ _ _ _ (c.loop-at.invariant.1 c.args.start refl q k h) (month-past _ (ap said (sym c.in_default.is) ∙ c.at.ensures)) q

pub returns-then-places-first : goal.returns-then-places-first
returns-then-places-first c = let w = month-said c.loop-at.at c.in-Some.m (ap said (sym c.in-Some.is) ∙ c.at.ensures) in
    λ q k h. search-ends _ _ _ _ _ _ _ (c.loop-at.invariant.1 c.args.start refl q k h) _ _ w.small w.first w.days c.if-places-first.true

pub invariant_of-layout : goal.invariant_of-layout
invariant_of-layout c = let w = month-said c.loop-at.at c.in-Some.m (ap said (sym c.in-Some.is) ∙ c.at.ensures) in
    record { few = rw w.days (length-short _); week = omega arith }

pub overflow_add-result-in-Some-least : goal.overflow_add-result-in-Some-least
overflow_add-result-in-Some-least c = omega (arith, c.in-Some-least.ensures.0.most)

pub returns-in-Some-least : goal.returns-in-Some-least
returns-in-Some-least c = let w = month-said c.loop-at.at c.in-Some.m (ap said (sym c.in-Some.is) ∙ c.at.ensures) in
    λ q k h. search-finds _ _ _ _ _ _ _ (c.loop-at.invariant.1 c.args.start refl q k h) _ _ w.small w.first w.days _ refl _ c.month_set.ensures q c.args.stepped.steps _ c.in-Some-least.ensures.0 c.in-Some-least.ensures.1

pub overflow_add-at : goal.overflow_add-at
overflow_add-at c = let w = month-said c.loop-at.at c.in-Some.m (ap said (sym c.in-Some.is) ∙ c.at.ensures) in
    omega (arith, w.small)

pub loop-at-smaller : goal.loop-at-smaller
loop-at-smaller c = let w = month-said c.loop-at.at c.in-Some.m (ap said (sym c.in-Some.is) ∙ c.at.ensures) in
    omega (arith, w.small, c.args.stepped.steps)

pub loop-at-preserved : goal.loop-at-preserved
loop-at-preserved c = let w = month-said c.loop-at.at c.in-Some.m (ap said (sym c.in-Some.is) ∙ c.at.ensures) in
    (omega arith, λ e d q k h. search-on _ e _ _ _ _ _ (c.loop-at.invariant.1 e d q k h) _ _ w.small w.first w.days _ d _ c.month_set.ensures q c.args.stepped.steps c.in_default-least.ensures)

pub overflow_shr-month_set : goal.overflow_shr-month_set
overflow_shr-month_set c = omega arith
