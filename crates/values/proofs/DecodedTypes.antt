-- Which types are decoded, by their codes.
use Prim.Native.Nat.{ℕ, zero, suc, ◌<◌, ◌≤◌}
use mathlib.Core.Path.{◌≡◌, refl}
use mathlib.Core.Bool.{Bool, false}
use native.Mathlib.Omega.{arith}
use borrow.Author.Tests.{ne_eqb}
use Rattle.types.specs.Codes.{unprocessed, binary}
use Rattle.values.specs.Base64.{is_decoded}

-- what is decoded; binary and what passes unprocessed have the least codes
pub not-decoded : (c : ℕ) (b : Bool) → c < 2 → is_decoded c b ≡ false
unfolding is_decoded
not-decoded zero b h = refl
not-decoded (suc zero) b h = refl
not-decoded (suc (suc c)) b h = absurd (omega arith)

pub decoded : (c : ℕ) (b : Bool) → 2 ≤ c → is_decoded c b ≡ b
unfolding is_decoded
decoded c b h = rw (ne_eqb c unprocessed (λ e. omega arith), ne_eqb c binary (λ e. omega arith))
