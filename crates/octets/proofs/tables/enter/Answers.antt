-- `octets::tables::enter` meets its contract.
use Prim.Native.Nat.{ℕ, ◌-◌, min}
use mathlib.Core.Bool.{not}
use mathlib.Core.Path.{◌≡◌, sym, ap, ◌∙◌}
use mathlib.Core.List.{List, map}
use borrow.Author.Tests.{eq-eqb, eqb-true, not-true, not-false}
use lib.Dec.{eqb}
use lib.ListN.{take, drop, length}
use Rattle.octets.specs.Groups.{cased}
use Rattle.octets.specs.Optional.{said, is_some}
use Rattle.octets.specs.Slots.{slot_for, slot_in, slot_between, name_in}
use Rattle.octets.specs.declared.names.Case.{Case}
use Rattle.octets.proofs.Cases.{never}
use Rattle.octets.proofs.Optional.{when-is, some-when}
use Rattle.octets.proofs.Slots.{cut-to, slot-holds, enters-seen, enters_none, enters-not, enters-stored}
use Rattle.octets.proofs.tables.enter.Goals as goal

-- the slot at which the search for the name ends
sought : (case : Case) (s table : List ℕ) (from end q to at : ℕ) → q ≡ slot_in (name_in case s) (map (cased case) (take (to - at) (drop at s))) table
    → to ≡ min end (length s) → at ≡ min from to → q ≡ slot_in (name_in case s) (map (cased case) (take (end - from) (drop from s))) table
sought case s table from end q to at e t a = e ∙ ap (λ (x : List ℕ). slot_in (name_in case s) (map (cased case) x) table) (cut-to s from end at to t a)

pub returns-then-table-q : goal.returns-then-table-q
returns-then-table-q c = enters_none _ _ _ _ (sought _ _ _ _ _ _ _ _ c.slot_in-q.ensures c.min-to.ensures c.min-at.ensures) _ c.if-table-q.true

pub returns-then-table-q-ne0 : goal.returns-then-table-q-ne0
returns-then-table-q-ne0 c = enters-seen _ _ _ _ (sought _ _ _ _ _ _ _ _ c.slot_in-q.ensures c.min-to.ensures c.min-at.ensures) c.if-table-q-ne0.true

pub returns-in_default : goal.returns-in_default
unfolding is_some
returns-in_default c =
    let f = slot_for c.min-at.result c.min-to.result in
    let n : not (eqb f 0) ≡ is_some (said c.slot_for.result) = sym (some-when (not (eqb f 0)) f) ∙ ap is_some (sym c.slot_for.ensures) in
    let z : f ≡ 0 = eqb-true f 0 (not-false _ (n ∙ ap (λ o. is_some (said o)) c.in_default.is)) in
    enters-not _ _ _ _ (sought _ _ _ _ _ _ _ _ c.slot_in-q.ensures c.min-to.ensures c.min-at.ensures) _ c.if-table-q-ne0.false (rw (c.min-at.ensures, c.min-to.ensures) at z)

pub returns : goal.returns
returns c = let a = c.args in
    let f = slot_for c.min-at.result c.min-to.result in
    let e = when-is (not (eqb f 0)) f c.in-Some.p (sym c.slot_for.ensures ∙ ap said c.in-Some.is) in
    let z : (f ≡ 0) → ⊥ = λ y. never (eq-eqb f 0 y) (not-true _ e.0) in
    let m : f ≡ slot_between a.s.now a.from a.end = rw (c.min-at.ensures, c.min-to.ensures) in
    let k = ap (name_in a.case a.s.now) (sym e.1) ∙ slot-holds a.case a.s.now _ _ z ∙ ap (map (cased a.case)) (cut-to _ _ _ _ _ c.min-to.ensures c.min-at.ensures) in
    rw (sym m ∙ e.1) (enters-stored _ _ _ _ (sought _ _ _ _ _ _ _ _ c.slot_in-q.ensures c.min-to.ensures c.min-at.ensures) c.in-Some.p (λ y. z (e.1 ∙ y)) k c.if-table-q.false c.if-table-q-ne0.false)
