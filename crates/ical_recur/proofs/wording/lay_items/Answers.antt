-- `ical_recur::wording::lay_items` meets its contract.
use mathlib.Core.Path.{refl, sym, ◌∙◌}
use native.Mathlib.Omega.{arith}
use Rattle.octets.proofs.Pen.{nothing, then, front_same, front-behind, leads-start, leads-on, leads-last}
use Rattle.tape.proofs.Tags.{on-tape}
use Rattle.tape.proofs.Walks.{along-start, along-next, along-end}
use Rattle.ical_recur.proofs.ObjectTexts.{items-last, items_more}
use Rattle.ical_recur.proofs.KindTests.{all_end, all-on, all-stop, some_end, some-all}
use Rattle.ical_recur.proofs.wording.lay_items.Goals as goal

pub returns-then-tag : goal.returns-then-tag
returns-then-tag c = (some_end _ _ _ (sym c.tag.ensures ∙ c.if-tag.true), front_same)

pub loop-q-init : goal.loop-q-init
loop-q-init c = (λ e. c.if-tag.false (c.tag.ensures ∙ e), (_, nothing), some-all _ _ _ (λ e. c.if-tag.false (c.tag.ensures ∙ e)), leads-start, along-start (omega (arith, on-tape _ _ (λ e. c.if-tag.false (c.tag.ensures ∙ e)))))

pub returns-in_err-q : goal.returns-in_err-q
returns-in_err-q c = let one = c.in_err-q.ensures in
    rw c.from_residual.ensures (sym c.loop-q.invariant.2 ∙ all-stop _ _ _ c.loop-q.invariant.0 one.0, front-behind c.loop-q.invariant.1.1 one.1)

pub returns-then-tag-2 : goal.returns-then-tag-2
returns-then-tag-2 c = let one = c.in_ok-q.ensures in
    let z = sym c.tag-in-loop-q.ensures ∙ c.if-tag-2.true in
    (sym c.loop-q.invariant.2 ∙ all-on _ _ _ one.2 c.loop-q.invariant.0 one.0 ∙ all_end _ _ _ z, leads-last c.loop-q.invariant.3 one.1 (items-last _ one.2 c.loop-q.invariant.0 z), along-end (along-next c.loop-q.invariant.4 one.2) z c.after.ensures)

pub loop-q-smaller : goal.loop-q-smaller
loop-q-smaller c = let one = c.in_ok-q.ensures in
    omega (arith, one.2.more c.loop-q.invariant.0, one.2.high)

pub loop-q-preserved : goal.loop-q-preserved
loop-q-preserved c = let one = c.in_ok-q.ensures in
    (λ e. c.if-tag-2.false (c.tag-in-loop-q.ensures ∙ e), (_, then (then c.loop-q.invariant.1.1 one.1) c.put-to.ensures), sym (all-on _ _ _ one.2 c.loop-q.invariant.0 one.0) ∙ c.loop-q.invariant.2, leads-on (leads-on c.loop-q.invariant.3 one.1 (items_more _ one.2 c.loop-q.invariant.0 (λ e. c.if-tag-2.false (c.tag-in-loop-q.ensures ∙ e)))) c.put-to.ensures refl, along-next c.loop-q.invariant.4 one.2)
