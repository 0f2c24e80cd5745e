-- `types::table::first_of` meets its contract.
use mathlib.Core.Path.{sym, ◌∙◌}
use Rattle.types.specs.Coded.{type_code}
use Rattle.types.specs.Table.{entry}
use Rattle.types.specs.Laid.{row_found}
use Rattle.types.proofs.LookupLaws.{first-none, first-here, first-behind}
use Rattle.types.proofs.table.first_of.Goals as goal

pub returns-then-is_named : goal.returns-then-is_named
unfolding row_found
returns-then-is_named c = rw c.code.ensures (sym (sym c.loop-rows.invariant ∙ first-here (λ r. entry r.0.now (type_code r.1) r.2) c.loop-rows.rows.now _ _ c.in-len1-up.len_at_least (sym c.is_named.ensures ∙ c.if-is_named.true)))

pub loop-rows-preserved : goal.loop-rows-preserved
loop-rows-preserved c = sym (sym c.loop-rows.invariant ∙ first-behind (λ r. entry r.0.now (type_code r.1) r.2) c.loop-rows.rows.now _ _ c.in-len1-up.len_at_least (sym c.is_named.ensures ∙ c.if-is_named.false))

pub returns : goal.returns
unfolding row_found
returns c = sym (sym c.loop-rows.invariant ∙ first-none (λ r. entry r.0.now (type_code r.1) r.2) c.loop-rows.rows.now _ c.in_default.len_below)
