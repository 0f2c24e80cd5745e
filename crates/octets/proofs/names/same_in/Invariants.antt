-- What is left decides.
use mathlib.Core.Path.{◌≡◌}
use mathlib.Core.List.{map}
use lib.ListN.{length, drop}
use Rattle.octets.specs.Basics.{same}
use Rattle.octets.specs.Groups.{cased}
use Rattle.octets.proofs.names.same_in.Given as goal

abbrev pub invariant-loop-i : goal.invariant-loop-i
invariant-loop-i l = (length l.a ≡ length l.b) × (same (map (cased l.case) l.a) (map (cased l.case) l.b) ≡ same (map (cased l.case) (drop l.i l.a)) (map (cased l.case) (drop l.i l.b)))
