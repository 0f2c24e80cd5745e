-- `types::table::find_in` meets its contract.
use Rattle.std.proofs.Common.{◌≡◌, length}
use Rattle.types.specs.Table.{find}
use Rattle.types.specs.Laid.{rows_in}
use Rattle.types.proofs.table.find_in.Given as goal

abbrev pub invariant-loop-rows : goal.invariant-loop-rows
invariant-loop-rows l = find (rows_in l.initial.rows) l.name ≡ find (rows_in l.rows) l.name

abbrev pub decreases-loop-rows : goal.decreases-loop-rows
decreases-loop-rows l = length l.rows
