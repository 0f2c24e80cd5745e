-- `octets::is_block_of` meets its contract.
use mathlib.Core.Path.{◌≡◌, refl, sym, ◌∙◌}
use native.Mathlib.Omega.{arith}
use lib.ListN.{length}
use Rattle.octets.proofs.Classes.{all_done, count-in, count-out}
use Rattle.octets.proofs.searching.is_block_of.Goals as goal
use Rattle.octets.proofs.searching.is_block_of.Goals.{then-has, else-has}

pub loop-c-init : goal.loop-c-init
loop-c-init c = (omega arith, refl)

pub loop-c-preserved : goal.loop-c-preserved
loop-c-preserved c = let l = c.loop-c in
    let h = c.loop-c-test.true in
    elim c.if-has.branch [
      | then-has w ↦ (omega (arith, w.n-is), rw w.n-is (count-in _ _ _ l.n h (sym c.has.ensures ∙ w.if-has.true) ∙ l.invariant.1))
      | else-has w ↦ (omega (arith, w.n-is), rw w.n-is (count-out _ _ _ l.n l.invariant.0 h (sym c.has.ensures ∙ w.if-has.false) ∙ l.invariant.1))
    ]

pub returns : goal.returns
returns c = let l = c.loop-c in
    let e : length c.args.s.now ≡ l.c-index = omega arith in
    rw e (sym (all_done _ _ _ _ c.loop-c-test.false) ∙ l.invariant.1)
