-- The slot of the octets so far, and what the octets from here on make of it.
use Prim.Native.Nat.{◌<◌}
use mathlib.Core.Path.{◌≡◌}
use mathlib.Core.List.{map}
use lib.ListN.{drop}
use Rattle.octets.specs.Groups.{cased}
use Rattle.octets.specs.Slots.{slot_from, slot_of}
use Rattle.octets.proofs.tables.slot_of.Given as goal

abbrev pub invariant-loop-c : goal.invariant-loop-c
invariant-loop-c l = (l.h < 16381) × (slot_from l.h (map (cased l.case) (drop l.c-index l.name)) ≡ slot_of (map (cased l.case) l.name))
