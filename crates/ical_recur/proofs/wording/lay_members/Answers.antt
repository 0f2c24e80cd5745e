-- `ical_recur::wording::lay_members` meets its contract.
use mathlib.Core.Path.{refl, sym, ◌∙◌}
use native.Mathlib.Omega.{arith}
use Rattle.octets.proofs.Pen.{as-text, nothing, then, front-behind, leads-start, leads-on, leads-last}
use Rattle.tape.proofs.Scans.{Keyed, member-on}
use Rattle.ical_recur.proofs.ObjectTexts.{members-none, members-last, members-more}
use Rattle.ical_recur.proofs.KindTests.{kinds-end, member-stops, member-stands}
use Rattle.ical_recur.proofs.wording.lay_members.Goals as goal

pub returns-then-tag : goal.returns-then-tag
returns-then-tag c = let z = sym c.tag.ensures ∙ c.if-tag.true in
    (kinds-end _ _ z, as-text nothing (members-none _ _ z), z)

pub loop-q-init : goal.loop-q-init
loop-q-init c = (λ e. c.if-tag.false (c.tag.ensures ∙ e), (_, nothing), refl, leads-start)

pub returns-in_err-q : goal.returns-in_err-q
returns-in_err-q c = let one = c.in_err-q.ensures in
    rw c.from_residual.ensures (sym c.loop-q.invariant.2 ∙ member-stops c.loop-q.invariant.0 c.text_at-k.ensures one.0, front-behind c.loop-q.invariant.1.1 one.1)

pub returns-then-tag-2 : goal.returns-then-tag-2
returns-then-tag-2 c = let one = c.in_ok-q.ensures in
    let m : Keyed _ _ _ _ = record { some = c.loop-q.invariant.0; key = c.text_at-k.ensures; next = one.2 } in
    let z = sym c.tag-in-loop-q.ensures ∙ c.if-tag-2.true in
    (sym c.loop-q.invariant.2 ∙ member-stands m one.0 ∙ kinds-end _ _ z, leads-last c.loop-q.invariant.3 one.1 (members-last m z), z)

pub loop-q-smaller : goal.loop-q-smaller
loop-q-smaller c = let one = c.in_ok-q.ensures in
    let m : Keyed _ _ _ _ = record { some = c.loop-q.invariant.0; key = c.text_at-k.ensures; next = one.2 } in
    omega (arith, member-on m, one.2.high)

pub loop-q-preserved : goal.loop-q-preserved
loop-q-preserved c = let one = c.in_ok-q.ensures in
    let m : Keyed _ _ _ _ = record { some = c.loop-q.invariant.0; key = c.text_at-k.ensures; next = one.2 } in
    (λ e. c.if-tag-2.false (c.tag-in-loop-q.ensures ∙ e), (_, then (then c.loop-q.invariant.1.1 one.1) c.put-to.ensures), sym (member-stands m one.0) ∙ c.loop-q.invariant.2, leads-on (leads-on c.loop-q.invariant.3 one.1 (members-more m (λ e. c.if-tag-2.false (c.tag-in-loop-q.ensures ∙ e)))) c.put-to.ensures refl)
