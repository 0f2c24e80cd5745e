-- The fourteen types and their codes.
use Prim.Native.Nat.{ℕ}
use mathlib.Core.Path.{◌≡◌, refl, sym, ◌∙◌}
use mathlib.Core.Bool.{true, false}
use native.Mathlib.Omega.{arith}
use borrow.Author.Tests.{leb-true, leb-false}
use lib.Dec.{leb}
use Rattle.octets.specs.Classes.{between}
use Rattle.octets.proofs.Cases.{cases}
use Rattle.octets.proofs.Classes.{below-between, above-between, between-true}
use Rattle.types.specs.Codes.{type_name, code_named}
use Rattle.types.specs.Coded.{type_code}
use Rattle.types.specs.declared.kinds.ValueType.{ValueType}
use Rattle.types.specs.declared.kinds.ValueType.TheVariants.{Binary, Boolean, CalAddress, Date, DateTime, Duration, Float, Integer, Period, Recur, Text, Time, Uri, UtcOffset}
use Rattle.types.proofs.Types.{code-of-name, code-of-none}

code-within : (k : ValueType) → between 1 14 (type_code k) ≡ true
unfolding between
code-within Binary = refl
code-within Boolean = refl
code-within CalAddress = refl
code-within Date = refl
code-within DateTime = refl
code-within Duration = refl
code-within Float = refl
code-within Integer = refl
code-within Period = refl
code-within Recur = refl
code-within Text = refl
code-within Time = refl
code-within Uri = refl
code-within UtcOffset = refl

-- the type that has a code
pub of-code : (k : ValueType) (c : ℕ) → type_code k ≡ code_named (type_name c) → c ≡ type_code k
of-code k c e = cases (leb c 14)
    (λ h. sym (code-of-name c (leb-true c 14 h)) ∙ sym e)
    (λ h. let z : type_code k ≡ 0 = e ∙ code-of-none c (leb-false c 14 h) in absurd (omega (arith, z, (between-true 1 14 (type_code k) (code-within k)).0)))

pub of-code-within : (k : ValueType) (c : ℕ) → type_code k ≡ code_named (type_name c) → between 1 14 c ≡ true
of-code-within k c e = rw (of-code k c e) (code-within k)

-- a code that no type has
pub no-code : (c : ℕ) → 0 ≡ code_named (type_name c) → between 1 14 c ≡ false
no-code c e = cases (leb c 14)
    (λ h. let z : c ≡ 0 = sym (e ∙ code-of-name c (leb-true c 14 h)) in below-between 1 14 c (omega arith))
    (λ h. above-between 1 14 c (leb-false c 14 h))
