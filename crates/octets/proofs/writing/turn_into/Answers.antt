-- `octets::turn_into` meets its contract.
use Prim.Native.Nat.{ℕ, ◌+◌, ◌<◌}
use mathlib.Core.List.{List, [], ◌∷◌, map, ◌++◌}
use mathlib.Core.Path.{◌≡◌, sym, ◌∙◌}
use native.Mathlib.Omega.{arith}
use lib.ListN.{length, get_or, set, take, drop}
use Rattle.std.proofs.Math.Seq.{set-append_seam}
use Rattle.std.proofs.lemmas.List.{append_assoc, map_more, length-take-le}
use Rattle.octets.specs.Groups.{cased}
use Rattle.octets.proofs.Classes.{map-length}
use Rattle.octets.proofs.Positions.{here}
use Rattle.octets.proofs.writing.turn_into.Goals as goal

-- an octet is set behind xs
behind : (xs ds : List ℕ) (i d y : ℕ) → length xs ≡ i → set (xs ++ d ∷ ds) i y ≡ (xs ++ y ∷ []) ++ ds
behind xs ds i d y e = rw (← e) (set-append_seam xs d ds y ∙ sym (append_assoc xs (y ∷ []) ds))

more : (f : ℕ → ℕ) (xs o b : List ℕ) (i y : ℕ) → i < length xs → length o ≡ length xs → b ≡ map f (take i xs) ++ drop i o → y ≡ f (get_or xs i 0) → set b i y ≡ map f (take (i + 1) xs) ++ drop (i + 1) o
more f xs o b i y h l e q = rw (e, q, here o i (omega arith), map_more f xs i 0 h) (behind (map f (take i xs)) (drop (i + 1) o) i _ _ (map-length f (take i xs) ∙ length-take-le i xs (omega arith)))

pub loop-i-preserved : goal.loop-i-preserved
loop-i-preserved c = (c.loop-i.invariant.0, more (cased c.args.case) c.args.src.now c.args.part.now c.loop-i.part c.loop-i.i c.turn.result c.loop-i-test.true c.loop-i.invariant.0 c.loop-i.invariant.1 c.turn.ensures)
