-- What is passed from here on is passed in all.
use Prim.Native.Nat.{◌+◌}
use mathlib.Core.Path.{◌≡◌}
use mathlib.Core.List.{map}
use lib.ListN.{drop}
use Rattle.octets.specs.Groups.{cased}
use Rattle.octets.specs.Slots.{passed, slot_in, name_in}
use Rattle.octets.proofs.tables.slot_in.Given as goal

abbrev pub invariant-loop-q : goal.invariant-loop-q
invariant-loop-q l = slot_in (name_in l.case l.s) (map (cased l.case) l.name) l.table ≡ l.q + passed (name_in l.case l.s) (map (cased l.case) l.name) (drop l.q l.table)
