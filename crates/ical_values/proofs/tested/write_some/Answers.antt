-- `ical_values::tested::write_some` meets its contract.
use Rattle.ical_values.proofs.ValueGroups.{group-start, taken-stop, taken-last, taken-several, taken-on, joined-last, joined-more}
use Rattle.content.proofs.Folding.{none, then, leads-start, leads-on, leads-last}
use Rattle.tape.proofs.Walks.{along-next, along-end}
use Rattle.tape.specs.Decode.{tag_at}
use Rattle.octets.proofs.Pen.{front-behind, front-wrote}
use Rattle.json_text.specs.Tape.{tag_end}
use native.Mathlib.Omega.{arith}
use mathlib.Core.Path.{◌≡◌, refl, sym, ◌∙◌}
use Rattle.ical_values.proofs.tested.write_some.Goals as goal

pub loop-e-init : goal.loop-e-init
loop-e-init c = (c.requires.0, (_, none), group-start c.requires.0, refl, leads-start)

pub write_one-requires : goal.write_one-requires
write_one-requires c = c.requires.1

pub returns-in_err-e : goal.returns-in_err-e
returns-in_err-e c = let inv = c.loop-e.invariant in
    let w = c.in_err-e.ensures in
    rw c.from_residual.ensures (sym inv.3 ∙ taken-stop _ _ _ _ inv.0 w.0, front-behind inv.1.1.wrote w.1)

pub returns-then-tag : goal.returns-then-tag
returns-then-tag c = let inv = c.loop-e.invariant in
    let w = c.in_ok-e.ensures in
    let z = sym c.tag.ensures ∙ c.if-tag.true in
    (sym inv.3 ∙ taken-last _ _ _ _ inv.0 w.2 z w.0, leads-last inv.4 w.1 (joined-last _ _ _ _ inv.0 w.2 z), along-end (along-next inv.2 w.2) z c.after.ensures)

pub returns-then-not-several : goal.returns-then-not-several
returns-then-not-several c = let inv = c.loop-e.invariant in
    let w = c.in_ok-e.ensures in
    (sym inv.3 ∙ taken-several _ _ _ _ inv.0 w.2 (λ z. c.if-tag.false (c.tag.ensures ∙ z)) c.if-not-several.true, front-wrote (then inv.1.1 w.1).wrote)

pub loop-e-smaller : goal.loop-e-smaller
loop-e-smaller c = let w = c.in_ok-e.ensures in
    omega (arith, w.2.more c.loop-e.invariant.0, w.2.high)

pub loop-e-preserved : goal.loop-e-preserved
loop-e-preserved c = let inv = c.loop-e.invariant in
    let w = c.in_ok-e.ensures in
    let n : (tag_at _ _ ≡ tag_end) → ⊥ = λ z. c.if-tag.false (c.tag.ensures ∙ z) in (
      n,
      (_, then (then inv.1.1 w.1) c.fold_octet-q.ensures),
      along-next inv.2 w.2,
      sym (taken-on _ _ _ _ inv.0 w.2 c.if-not-several.false w.0) ∙ inv.3,
      leads-on (leads-on inv.4 w.1 (joined-more _ _ _ _ inv.0 w.2 n)) c.fold_octet-q.ensures refl,
    )
