-- `values::sorts::sort_of` meets its contract.
use mathlib.Core.Path.{sym, ◌∙◌}
use Rattle.values.specs.Coded.{sort_said}
use Rattle.values.proofs.Naming.{named, sort-by, plainly-named}
use Rattle.values.proofs.sorts.sort_of.Goals as goal

pub returns-then-same_name : goal.returns-then-same_name
returns-then-same_name c = sort-by _ _ _ _ _ c.of_code.ensures c.from.ensures (unfold named sort_said in rw (c.in-Float.is, sym c.same_name.ensures ∙ c.if-same_name.true))

pub returns-else-same_name : goal.returns-else-same_name
returns-else-same_name c = sort-by _ _ _ _ _ c.of_code.ensures c.from.ensures (unfold named sort_said in rw (c.in-Float.is, sym c.same_name.ensures ∙ c.if-same_name.false))

pub returns-then-same_name-2 : goal.returns-then-same_name-2
returns-then-same_name-2 c = sort-by _ _ _ _ _ c.of_code.ensures c.from.ensures (unfold named sort_said in rw (c.in-Text.is, sym c.same_name-in-Text.ensures ∙ c.if-same_name-2.true))

pub returns-else-same_name-2 : goal.returns-else-same_name-2
returns-else-same_name-2 c = sort-by _ _ _ _ _ c.of_code.ensures c.from.ensures (unfold named sort_said in rw (c.in-Text.is, sym c.same_name-in-Text.ensures ∙ c.if-same_name-2.false))

pub returns-in_default : goal.returns-in_default
returns-in_default c = sort-by _ _ _ _ _ c.of_code.ensures c.from.ensures (sym (plainly-named _ _ c.in_default.not-Float c.in_default.not-Text))
