-- `types::table::find_in` meets its contract.
use mathlib.Core.Path.{sym, ◌∙◌}
use Rattle.types.specs.Laid.{row_found}
use Rattle.types.proofs.Laid.{find-end, find-cut, find-here, find-behind}
use Rattle.types.proofs.table.find_in.Goals as goal

pub returns-then-rest-n : goal.returns-then-rest-n
unfolding row_found
returns-then-rest-n c = sym (c.loop-rows.invariant ∙ find-cut c.loop-rows.rows.now _ c.in-len3-up.len_at_least c.if-rest-n.true)

pub returns-then-is_named : goal.returns-then-is_named
unfolding row_found
returns-then-is_named c = sym (c.loop-rows.invariant ∙ find-here c.loop-rows.rows.now _ c.in-len3-up.len_at_least c.if-rest-n.false (sym c.is_named.ensures ∙ c.if-is_named.true))

pub loop-rows-preserved : goal.loop-rows-preserved
loop-rows-preserved c = c.loop-rows.invariant ∙ find-behind c.loop-rows.rows.now _ c.in-len3-up.len_at_least c.if-rest-n.false (sym c.is_named.ensures ∙ c.if-is_named.false)

pub returns : goal.returns
returns c = unfold row_found in sym (c.loop-rows.invariant ∙ find-end c.loop-rows.rows.now _ c.in_default.len_below)
