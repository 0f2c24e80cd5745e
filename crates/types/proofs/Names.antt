-- Names in either case: in lowercase beside lowercase ones, and in uppercase by their places.
use Prim.Native.Nat.{ℕ, ◌+◌, ◌≤◌, ◌<◌}
use mathlib.Core.Path.{◌≡◌, ◌∙◌}
use mathlib.Core.Bool.{Bool, true}
use mathlib.Core.List.{List}
use native.Mathlib.Omega.{arith}
use lib.Dec.{eqb}
use lib.ListN.{length, get_or, drop, get_or-map}
use Rattle.octets.specs.Basics.{◌and◌, all, same}
use Rattle.octets.specs.Classes.{between, is_lower, lower_name_octet, upper_octet, upper, lower}
use Rattle.octets.proofs.Cases.{alike, and_assoc, and-true-right}
use Rattle.octets.proofs.Positions.{here}
use Rattle.octets.proofs.Classes.{same-is, same-itself, same_end, upper-lower, lower-upper, lower-name-stays, upper-length}

-- a name is m in lowercase where it is m in uppercase
pub same-lower : (s m : List ℕ) → all lower_name_octet m ≡ true → same (lower s) m ≡ same (upper m) (upper s)
same-lower s m h = alike (same (lower s) m) (same (upper m) (upper s))
    (λ e. let q = same-is (lower s) m e in rw (← q, upper-lower) (same-itself (upper s)))
    (λ e. let q = same-is (upper m) (upper s) e in rw (← lower-upper s, ← q, lower-upper, lower-name-stays m h) (same-itself m))

-- a name in uppercase, by its places
pub upper-at : (s : List ℕ) (i : ℕ) → get_or (upper s) i 0 ≡ upper_octet (get_or s i 0)
unfolding upper upper_octet is_lower between
upper-at s i = get_or-map upper_octet s i 0

-- a row's name beside one in uppercase, from the place i on
module _ (row name : List ℕ) (i : ℕ) (l : length row ≡ length name) (so_far : Bool) where
  pub named-on : i < length row → ((so_far and eqb (get_or row i 0) (upper_octet (get_or name i 0))) and same (drop (i + 1) row) (drop (i + 1) (upper name))) ≡ (so_far and same (drop i row) (drop i (upper name)))
  unfolding same
  named-on h =
      let k : i < length (upper name) = rw upper-length (omega arith) in
      and_assoc so_far (eqb (get_or row i 0) (upper_octet (get_or name i 0))) (same (drop (i + 1) row) (drop (i + 1) (upper name))) ∙ rw (here row i h, here (upper name) i k, upper-at name i)

  pub named_end : length row ≤ i → (so_far and same (drop i row) (drop i (upper name))) ≡ so_far
  named_end h = rw (same_end row (upper name) i h (rw upper-length (omega arith))) (and-true-right so_far)
