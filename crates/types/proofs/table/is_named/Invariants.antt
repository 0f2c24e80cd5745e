-- `types::table::is_named` meets its contract.
use Rattle.std.proofs.Common.{◌≡◌, length, drop}
use Rattle.octets.specs.Basics.{◌and◌, same}
use Rattle.octets.specs.Classes.{upper}
use Rattle.types.proofs.table.is_named.Given as goal

abbrev pub invariant-loop-i : goal.invariant-loop-i
invariant-loop-i l = (length l.row ≡ length l.name) × ((l.so_far and same (drop l.i l.row) (drop l.i (upper l.name))) ≡ same l.row (upper l.name))
