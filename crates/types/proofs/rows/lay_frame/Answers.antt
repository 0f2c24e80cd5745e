-- `types::rows::lay_frame` meets its contract.
use mathlib.Core.Path.{sym, ◌∙◌}
use native.Mathlib.Omega.{arith}
use Rattle.types.proofs.Frames.{framed, no-frame}
use Rattle.types.proofs.Laying.{no_row, old_row, new_row, beside, found-some, wrote-frame}
use Rattle.types.proofs.rows.lay_frame.Goals as goal

pub returns-then-not-is_row : goal.returns-then-not-is_row
returns-then-not-is_row c = no_row _ _ _ _ (no-frame _ (sym c.is_row.ensures ∙ c.if-not-is_row.true))

pub slice_bounds-find-count : goal.slice_bounds-find-count
slice_bounds-find-count c = omega (arith, (framed _ (sym c.is_row.ensures ∙ c.if-not-is_row.false)).low)

pub slice_bounds-find-start : goal.slice_bounds-find-start
slice_bounds-find-start c = omega (arith, (framed _ (sym c.is_row.ensures ∙ c.if-not-is_row.false)).low)

pub returns-then-is_some : goal.returns-then-is_some
returns-then-is_some c = let r = framed _ (sym c.is_row.ensures ∙ c.if-not-is_row.false) in
    old_row _ _ _ _ r.row r.is (beside c.args.rows.now _ c.args.at r (found-some _ c.find.ensures c.is_some.ensures) ∙ c.if-is_some.true)

pub overflow_sub-frame : goal.overflow_sub-frame
overflow_sub-frame c = omega (arith, (framed _ (sym c.is_row.ensures ∙ c.if-not-is_row.false)).low)

pub overflow_cast-frame : goal.overflow_cast-frame
overflow_cast-frame c = omega (arith, (framed _ (sym c.is_row.ensures ∙ c.if-not-is_row.false)).high)

pub returns : goal.returns
returns c = let r = framed _ (sym c.is_row.ensures ∙ c.if-not-is_row.false) in
    new_row _ _ _ _ r.row r.is _ (beside c.args.rows.now _ c.args.at r (found-some _ c.find.ensures c.is_some.ensures) ∙ c.if-is_some.false)
    (wrote-frame _ r c.put-start.ensures c.put_all.ensures)
