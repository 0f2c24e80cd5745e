-- What stands before the first octet of a kind, and a run of octets of a class.
use Rattle.std.specs.Prelude.{ℕ, ◌-◌, ◌≤◌, ◌<◌, ◌≡◌, Bool, true, false, List, [], ◌∷◌, length, take, drop, get_or}
use Rattle.octets.specs.Basics.{pick, all}

unfoldable pub until : (ℕ → Bool) → List ℕ → List ℕ
until stop [] = []
until stop (c ∷ s) = pick (stop c) [] (c ∷ until stop s)

-- from `at` to r stand octets of a class, and at r none
pub record ClassRun (class : ℕ → Bool) (text : List ℕ) (at r : ℕ) : Type 0 where
  pub above : at ≤ r
  pub below : r ≤ length text
  pub inside : all class (take (r - at) (drop at text)) ≡ true
  pub over : r < length text → class (get_or text r 0) ≡ false
