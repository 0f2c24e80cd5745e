-- `types::table::first_of` meets its contract.
use Rattle.std.proofs.Common.{◌≡◌, length, map}
use Rattle.types.specs.Coded.{type_code}
use Rattle.types.specs.Table.{entry, find}
use Rattle.types.proofs.table.first_of.Given as goal

abbrev pub invariant-loop-rows : goal.invariant-loop-rows
invariant-loop-rows l = find (map (λ r. entry r.0.now (type_code r.1) r.2) l.rows) l.name ≡ find (map (λ r. entry r.0.now (type_code r.1) r.2) l.initial.rows) l.name

abbrev pub decreases-loop-rows : goal.decreases-loop-rows
decreases-loop-rows l = length l.rows
