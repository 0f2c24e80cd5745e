-- `types::rows::lay_rows` meets its contract.
use Prim.Native.Nat.{ℕ, ◌+◌, ◌≤◌, ◌<◌}
use mathlib.Core.Path.{◌≡◌, sym, ap, ◌∙◌}
use mathlib.Core.List.{List}
use native.Mathlib.Omega.{arith}
use lib.Dec.{eqb}
use lib.ListN.{length, drop}
use Rattle.octets.specs.Search.{until}
use Rattle.octets.proofs.Limits.{most-rows}
use Rattle.octets.proofs.Pen.{kept}
use Rattle.types.specs.Reading.{pen_behind}
use Rattle.types.proofs.Lines.{line-sought}
use Rattle.types.proofs.Joining.{joins-cut}
use Rattle.types.proofs.Progress.{begun, in-room, all_read, too_many_rows, bad-line, good-line, refused-file, end-within}
use Rattle.types.proofs.rows.lay_rows.Goals as goal

-- a line ends at a line feed
a-line : (hex : List ℕ) {from end : ℕ} → from ≤ length hex → end ≡ from + length (until (λ c. eqb c 10) (drop from hex)) → (end ≡ length hex → ⊥) → end < length hex
a-line hex {from} {end} w e n = omega (arith, n, end-within hex from end w (e ∙ ap (λ k. from + k) (line-sought (drop from hex))))

pub loop-from-init : goal.loop-from-init
loop-from-init c = begun _ _ c.requires

pub shape_of-rows-then-end-hex : goal.shape_of-rows-then-end-hex
shape_of-rows-then-end-hex c = kept c.loop-from.invariant.written

pub returns-then-end-hex : goal.returns-then-end-hex
returns-then-end-hex c = let l = c.loop-from in
    refused-file _ _ _ (l.invariant.left ∙ joins-cut _ _ _ c.loop-from-test.true (sym (c.find-end.ensures ∙ ap (λ k. c.loop-from.from + k) (line-sought _)) ∙ c.if-end-hex.true))

pub shape_of-rows-then-count-eq-MOST_ROWS : goal.shape_of-rows-then-count-eq-MOST_ROWS
shape_of-rows-then-count-eq-MOST_ROWS c = kept c.loop-from.invariant.written

pub returns-then-count-eq-MOST_ROWS : goal.returns-then-count-eq-MOST_ROWS
returns-then-count-eq-MOST_ROWS c = let l = c.loop-from in
    refused-file _ _ _ (too_many_rows l.invariant c.loop-from-test.true c.find-end.result (c.find-end.ensures ∙ ap (λ k. c.loop-from.from + k) (line-sought _)) (a-line _ c.loop-from.invariant.within c.find-end.ensures c.if-end-hex.false) (omega (arith, most-rows)))

pub slice_bounds-lay_line-end : goal.slice_bounds-lay_line-end
slice_bounds-lay_line-end c = omega (arith, a-line _ c.loop-from.invariant.within c.find-end.ensures c.if-end-hex.false)

pub lay_line-requires : goal.lay_line-requires
lay_line-requires c = in-room c.loop-from.invariant

pub returns-in_err-at : goal.returns-in_err-at
returns-in_err-at c = let l = c.loop-from in
    rw c.from_residual.ensures (refused-file _ _ _ (bad-line l.invariant c.loop-from-test.true c.find-end.result (c.find-end.ensures ∙ ap (λ k. c.loop-from.from + k) (line-sought _)) (a-line _ c.loop-from.invariant.within c.find-end.ensures c.if-end-hex.false) (omega (arith, most-rows, c.loop-from.invariant.few, c.if-count-eq-MOST_ROWS.false)) _
    (sym (ap (λ r. pen_behind r c.lay_line.new.rows) c.in_err-at.was) ∙ c.lay_line.ensures)))

pub overflow_add-from : goal.overflow_add-from
overflow_add-from c = omega (arith, a-line _ c.loop-from.invariant.within c.find-end.ensures c.if-end-hex.false)

pub overflow_add-count : goal.overflow_add-count
overflow_add-count c = omega (arith, most-rows, c.loop-from.invariant.few)

pub loop-from-smaller : goal.loop-from-smaller
loop-from-smaller c = omega (arith, a-line _ c.loop-from.invariant.within c.find-end.ensures c.if-end-hex.false, (c.find-end.ensures ∙ ap (λ k. c.loop-from.from + k) (line-sought _)))

pub loop-from-preserved : goal.loop-from-preserved
loop-from-preserved c = let l = c.loop-from in
    good-line l.invariant c.loop-from-test.true c.find-end.result (c.find-end.ensures ∙ ap (λ k. c.loop-from.from + k) (line-sought _)) (a-line _ c.loop-from.invariant.within c.find-end.ensures c.if-end-hex.false) (omega (arith, most-rows, c.loop-from.invariant.few, c.if-count-eq-MOST_ROWS.false)) _ _
    (sym (ap (λ r. pen_behind r c.lay_line.new.rows) c.in_ok-at.was) ∙ c.lay_line.ensures)

pub shape_of-rows : goal.shape_of-rows
shape_of-rows c = kept c.loop-from.invariant.written

pub returns : goal.returns
returns c = all_read c.loop-from.invariant c.loop-from-test.false
