-- `tape::sounding::all_distinct` meets its contract. The loop's invariant: the keys from here on tell of all.
use Prim.Native.Nat.{◌-◌}
use mathlib.Core.Path.{◌≡◌}
use lib.ListN.{length}
use Rattle.tape.specs.Scan.{keys_from, keys_along}
use Rattle.tape.proofs.sounding.all_distinct.Given as goal

abbrev pub invariant-loop-i : goal.invariant-loop-i
invariant-loop-i l = keys_from l.t l.i ≡ keys_along l.t

abbrev pub decreases-loop-i : goal.decreases-loop-i
decreases-loop-i l = length l.t - l.i
