-- `octets::slot_in` meets its contract.
use mathlib.Core.Path.{◌≡◌, sym, ◌∙◌}
use mathlib.Core.List.{map}
use native.Mathlib.Omega.{arith}
use borrow.Author.Tests.{leb-true, leb-false}
use lib.Dec.{leb}
use lib.ListN.{length}
use Rattle.octets.specs.Groups.{cased}
use Rattle.octets.specs.Slots.{name_in}
use Rattle.octets.proofs.Cases.{cases}
use Rattle.octets.proofs.Slots.{seeking-start, seeking-end, seeking-free, seeking-there, seeking-on}
use Rattle.octets.proofs.tables.slot_in.Goals as goal

pub loop-q-init : goal.loop-q-init
loop-q-init c = rw c.slot_of-first.ensures (seeking-start _ _ _)

pub returns-then-p-eq0 : goal.returns-then-p-eq0
returns-then-p-eq0 c = let l = c.loop-q in seeking-free _ _ _ l.q c.loop-q-test.true c.if-p-eq0.true ∙ sym l.invariant

pub returns-then-is_held : goal.returns-then-is_held
returns-then-is_held c = let l = c.loop-q in
    seeking-there _ _ _ l.q c.loop-q-test.true (sym c.is_held.ensures ∙ c.if-is_held.true) ∙ sym l.invariant

pub loop-q-preserved : goal.loop-q-preserved
loop-q-preserved c = let l = c.loop-q in
    l.invariant ∙ seeking-on _ _ _ l.q c.loop-q-test.true c.if-p-eq0.false (sym c.is_held.ensures ∙ c.if-is_held.false)

pub returns : goal.returns
returns c = let a = c.args in let l = c.loop-q in let t = c.args.table.now in let f = c.slot_of-first.result in
    cases (leb f (length t))
    (λ e. let h = leb-true f (length t) e in let q : c.max.result ≡ l.q = omega (arith, c.max.ensures) in q ∙ seeking-end _ _ _ l.q c.loop-q-test.false ∙ sym l.invariant)
    (λ e.
    let h = leb-false f (length t) e in
    let q : c.max.result ≡ f = omega (arith, c.max.ensures) in
    q ∙ seeking-end (name_in a.case a.s.now) (map (cased a.case) a.name.now) t f (omega arith) ∙ sym (rw (← c.slot_of-first.ensures) at (seeking-start (name_in a.case a.s.now) (map (cased a.case) a.name.now) t)))
