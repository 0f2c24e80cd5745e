-- What is left to write is that of the octets from here on.
use mathlib.Core.List.{map}
use mathlib.Core.Path.{◌≡◌}
use lib.ListN.{length, drop}
use Rattle.octets.specs.Groups.{cased}
use Rattle.octets.specs.Pen.{pen}
use Rattle.octets.proofs.Pen.{Leads}
use Rattle.octets.proofs.writing.put_each.Given as goal

abbrev pub invariant-loop-c : goal.invariant-loop-c
invariant-loop-c l = (length l.out ≡ length l.initial.out) × Leads (pen l.initial.out l.at) (map (cased l.case) l.src) (pen l.out l.to) (map (cased l.case) (drop l.c-index l.src))
