-- The most stops, as the code reads them.
use Prim.Native.Nat.{ℕ, ◌+◌, ◌≤◌, ◌<◌, min}
use mathlib.Core.Path.{◌≡◌, ap}
use mathlib.Core.Bool.{true, false}
use mathlib.Core.List.{List}
use mathlib.Core.Option.{none, some}
use native.Mathlib.Omega.{arith}
use borrow.Author.Tests.{le-leb, lt-leb}
use lib.ListN.{length, drop, length-drop}
use Rattle.octets.specs.Basics.{same}
use Rattle.octets.proofs.Classes.{same-itself, same_length}
use Rattle.octets.specs.Optional.{when}
use Rattle.octets.specs.Decimal.{digits, value_of, trim}
use Rattle.stops_page.specs.Printing.{most_of, most_stops}

module _ (s : List ℕ) where
  pub no-digits : digits s ≡ false → none ≡ most_of s
  unfolding most_of when
  no-digits d = rw d

  module _ (d : digits s ≡ true) (z : ℕ) (h : z ≤ length s) (t : trim s ≡ drop z s) where
    -- zeros in front
    shorter : (z ≡ 0 → ⊥) → same (drop z s) s ≡ false
    shorter n = same_length (drop z s) s (λ e. let k = length-drop z s in n (omega arith))

    pub zeros : (z ≡ 0 → ⊥) → none ≡ most_of s
    unfolding most_of when
    zeros n = rw (d, t, shorter n)

    module _ (n : z ≡ 0) (v : ℕ) (e : v ≡ min (value_of s) (64 + 1)) where
      whole : same (trim s) s ≡ true
      whole = rw (t, n) (same-itself s)

      pub too_many : 64 < v → none ≡ most_of s
      unfolding most_of when most_stops
      too_many m = rw (d, whole, lt-leb (value_of s) 64 (omega arith))

      pub is-most : v ≤ 64 → some v ≡ most_of s
      unfolding most_of when most_stops
      is-most m = let q : v ≡ value_of s = omega arith in rw (d, whole, le-leb (value_of s) 64 (omega arith)) (ap some q)
