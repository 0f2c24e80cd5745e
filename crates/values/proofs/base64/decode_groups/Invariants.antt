-- `values::base64::decode_groups` meets its contract.
use Prim.Native.Nat.{◌*◌}
use mathlib.Core.Path.{◌≡◌}
use mathlib.Core.List.{[]}
use lib.ListN.{length, take, drop}
use Rattle.values.specs.Decoding.{decoded_behind}
use Rattle.values.proofs.base64.decode_groups.Given as goal

abbrev pub invariant-loop-k : goal.invariant-loop-k
invariant-loop-k l = (length l.out ≡ length l.initial.out) × (decoded_behind [] l.raw ≡ decoded_behind (take (3 * l.k) l.out) (drop (4 * l.k) l.raw))
