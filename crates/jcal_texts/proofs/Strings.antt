-- A text written as a string octet by octet, each octet changed by f.
use Prim.Native.Nat.{ℕ, ◌+◌, ◌≤◌, ◌<◌}
use Prim.Native.Char.{code}
use mathlib.Core.Path.{◌≡◌}
use mathlib.Core.List.{List, [], ◌∷◌, ◌++◌, map}
use lib.ListN.{length, get_or, drop}
use Rattle.octets.proofs.Positions.{here, ended}
use Rattle.json_text.specs.Print.{escaped, quoted}

module _ (f : ℕ → ℕ) (s : List ℕ) (i : ℕ) where
  pub mapped-on : i < length s → quoted (map f (drop i s)) ≡ escaped (f (get_or s i 0)) ++ quoted (map f (drop (i + 1) s))
  unfolding quoted
  mapped-on h = rw (here s i h)

  pub mapped_end : length s ≤ i → quoted (map f (drop i s)) ≡ code "\"" ∷ []
  unfolding quoted
  mapped_end h = rw (ended s i h)
