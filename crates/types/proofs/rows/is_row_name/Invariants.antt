-- `types::rows::is_row_name` meets its contract.
use Rattle.std.proofs.Common.{◌≡◌, drop}
use Rattle.octets.specs.Basics.{all}
use Rattle.types.specs.Rows.{row_octet}
use Rattle.types.proofs.rows.is_row_name.Given as goal

abbrev pub invariant-loop-c : goal.invariant-loop-c
invariant-loop-c l = all row_octet l.name ≡ all row_octet (drop l.c-index l.name)
