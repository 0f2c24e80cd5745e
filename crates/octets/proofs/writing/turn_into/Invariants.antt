-- The octets up to here are written, and those from here on are as they were.
use mathlib.Core.List.{map, ◌++◌}
use mathlib.Core.Path.{◌≡◌}
use lib.ListN.{length, take, drop}
use Rattle.octets.specs.Groups.{cased}
use Rattle.octets.proofs.writing.turn_into.Given as goal

abbrev pub invariant-loop-i : goal.invariant-loop-i
invariant-loop-i l = (length l.initial.part ≡ length l.src) × (l.part ≡ map (cased l.case) (take l.i l.src) ++ drop l.i l.initial.part)
