-- `tape::keys::has_key` meets its contract. The loop's invariant: the key is among the members from here on if it is among all.
use Prim.Native.Nat.{◌-◌}
use mathlib.Core.Path.{◌≡◌}
use lib.ListN.{length}
use Rattle.tape.specs.Sound.{has_key}
use Rattle.tape.specs.Decode.{members_at}
use Rattle.tape.proofs.keys.has_key.Given as goal

abbrev pub invariant-loop-at : goal.invariant-loop-at
invariant-loop-at l = has_key l.key (members_at l.t l.i) ≡ has_key l.key (members_at l.t l.at)

abbrev pub decreases-loop-at : goal.decreases-loop-at
decreases-loop-at l = length l.t - l.i
