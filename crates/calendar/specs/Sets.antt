-- Sets of small numbers, each as one number: k is in it where its binary digit k is 1.
use Rattle.std.specs.Prelude.{ℕ, ◌/◌, ◌%◌, ◌^◌, Bool, eqb}
use Rattle.std.specs.Int.Bits.{bit_or}

unfoldable pub has : ℕ → ℕ → Bool
has set k = eqb (set / 2 ^ k % 2) 1

-- the set with k
unfoldable pub with : ℕ → ℕ → ℕ
with set k = bit_or set (2 ^ k)
