-- What the reader of one character promises; `utf8` is what its caller promises.
use Rattle.std.specs.Prelude.{ℕ, zero, suc, ◌≤◌, ◌<◌, ◌≡◌, false, List, length, drop, Some, None}
use Rattle.std.specs.declared.option.Option as code
use Rattle.octets.specs.Basics.{pick}
use Rattle.octets.specs.Classes.{between}
use Rattle.octets.specs.Utf8.{Due, start, one, two, three, broken, due, due_after, is_start, utf8}

-- in the state d an octet from lo to hi is due, and then `next`
pub record Awaits (d : Due) (lo hi : ℕ) (next : Due) : Type 0 where
  pub step : (c : ℕ) → due d c ≡ pick (between lo hi c) next broken
  pub waits : is_start d ≡ false
  pub high : 128 ≤ lo

-- what is due where so many octets from 128 to 191 are; three, where they are more
abbrev pub still : ℕ → Due
still zero = start
still (suc zero) = one
still (suc (suc zero)) = two
still (suc (suc (suc n))) = three

-- the character of which d is due at i ends in front of r
pub record EndsAt (d : Due) (s : List ℕ) (i r : ℕ) : Type 0 where
  pub within : r ≤ length s
  pub onward : i < r
  pub told : is_start (due_after d (drop i s)) ≡ utf8 (drop r s)

-- where it ends, or it is broken
abbrev pub Ends : Due → List ℕ → ℕ → code.Option ℕ → Type 0
Ends d s i None = is_start (due_after d (drop i s)) ≡ false
Ends d s i (Some r) = EndsAt d s i r
