-- So many octets are due here as are left of MORE.
use Prim.Native.Nat.{◌+◌, ◌-◌, ◌≤◌}
use lib.ListN.{length}
use Rattle.octets.specs.Utf8.{Due}
use Rattle.octets.specs.Characters.{Awaits, still}
use Rattle.octets.proofs.Characters.{Onward}
use Rattle.octets.proofs.encoding.end_of.Given as goal

abbrev pub invariant-loop-k : goal.invariant-loop-k
invariant-loop-k g l = (l.i + 1 + l.k ≤ length l.s) × ((d : Due) → Awaits d l.lo l.hi (still g.row.MORE) → Onward d l.s l.i (g.row.MORE - l.k) (l.i + 1 + l.k))
