-- `tape::keys::has_key` meets its contract. The loop's invariant: the key is among the members from here on if it is among all.
use mathlib.Core.Path.{refl, sym, ◌∙◌}
use native.Mathlib.Omega.{arith}
use Rattle.tape.proofs.Scans.{Keyed, key-end, key_here, key-next, member-on}
use Rattle.tape.proofs.keys.has_key.Tie as tie
use Rattle.tape.proofs.keys.has_key.Lts as lts
use Rattle.tape.proofs.keys.has_key.Reads as reads
use Rattle.tape.proofs.keys.has_key.Goals as goal

keyed :
    (c : lts.After-behind tie.the-claims reads.Pre reads.Post goal.the-invariant-loop-at goal.the-decreases-loop-at) →
    Keyed c.args.t.now c.loop-at.i c.text_at-k.result c.behind-e.result
keyed c = record { some = λ z. c.if-tag.false (c.tag.ensures ∙ z); key = c.text_at-k.ensures; next = c.behind-e.ensures }

pub loop-at-init : goal.loop-at-init
loop-at-init c = refl

pub returns-then-tag : goal.returns-then-tag
returns-then-tag c = sym (key-end _ _ (sym c.tag.ensures ∙ c.if-tag.true) _) ∙ c.loop-at.invariant

pub returns-then-same : goal.returns-then-same
returns-then-same c = sym (key_here (keyed c.before.before.before.before.before) _ (sym c.same.ensures ∙ c.if-same.true)) ∙ c.loop-at.invariant

pub loop-at-smaller : goal.loop-at-smaller
loop-at-smaller c = omega (arith, member-on (keyed c.before.before.before.before.before), c.behind-e.ensures.high)

pub loop-at-preserved : goal.loop-at-preserved
loop-at-preserved c = sym (key-next (keyed c.before.before.before.before.before) _ (sym c.same.ensures ∙ c.if-same.false)) ∙ c.loop-at.invariant
