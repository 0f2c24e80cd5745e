-- An integer's value: a minus, and the digits behind the sign and the zeros.
use Prim.Native.Nat.{ℕ, ◌+◌, ◌-◌}
use mathlib.Core.Path.{◌≡◌, refl, ◌∙◌}
use mathlib.Core.Bool.{Bool, true, false, not}
use mathlib.Core.List.{List, [], ◌++◌}
use lib.Dec.{eqb}
use lib.ListN.{length, take, drop}
use lib.Seq.{drop-drop}
use Rattle.octets.specs.Basics.{◌and◌}
use Rattle.octets.specs.Decimal.{minus, unsigned, value_of, trim, minus_if, integer_text}
use Rattle.octets.proofs.Positions.{from}

behind-minus : (b : Bool) (xs : List ℕ) → minus_if b [] ++ xs ≡ minus_if b xs
unfolding minus_if
behind-minus true xs = refl
behind-minus false xs = refl

-- the sign has r octets, and z zeros stand behind it
pub integer-text : (s : List ℕ) (r z : ℕ) {b : Bool} → b ≡ (minus s and not (eqb (value_of (unsigned s)) 0)) → unsigned s ≡ drop r s → trim (take (length s - r) (drop r s)) ≡ drop z (take (length s - r) (drop r s))
    → minus_if b [] ++ take (length s - (r + z)) (drop (r + z) s) ≡ integer_text s
unfolding integer_text
integer-text s r z {b} e u t =
    let w : trim (drop r s) ≡ drop (r + z) s = (rw (from s r) at t) ∙ drop-drop z r s in
    rw (← e, u, w, from s (r + z)) (behind-minus b (drop (r + z) s))
