-- `octets::hex_digit` meets its contract.
use Prim.Native.Char.{code}
use Prim.Native.Nat.{ℕ, ◌<◌}
use mathlib.Core.Path.{◌≡◌, sym, ◌∙◌}
use mathlib.Core.Option.{some}
use native.Mathlib.Omega.{arith}
use borrow.Author.Tests.{lt-ltb}
use lib.Dec.{ltb}
use Rattle.octets.specs.Classes.{is_digit, hex_digit}
use Rattle.octets.specs.Optional.{when}
use Rattle.octets.proofs.Classes.{between-true}
use Rattle.octets.proofs.names.hex_digit.Goals as goal

-- a number under 16 is told
told : {d n : ℕ} → d ≡ n → n < 16 → some n ≡ when (ltb d 16) d
unfolding when
told {d} {n} e h = rw (e, lt-ltb n 16 h)

pub overflow_sub-result : goal.overflow_sub-result
unfolding is_digit
overflow_sub-result c = omega (arith, (between-true (code "0") (code "9") _ (sym c.is_digit.ensures ∙ c.if-is_digit.true)).0)

pub returns-then-is_digit-clause-low : goal.returns-then-is_digit-clause-low
unfolding is_digit
returns-then-is_digit-clause-low c = omega (arith, (between-true (code "0") (code "9") _ (sym c.is_digit.ensures ∙ c.if-is_digit.true)).1)

pub returns-then-is_digit-clause-value : goal.returns-then-is_digit-clause-value
returns-then-is_digit-clause-value c = told (unfold hex_digit in rw (sym c.is_digit.ensures ∙ c.if-is_digit.true)) (returns-then-is_digit-clause-low c)

pub overflow_sub-result-then-within : goal.overflow_sub-result-then-within
overflow_sub-result-then-within c = omega (arith, (between-true (code "A") (code "F") _ (sym c.within.ensures ∙ c.if-within.true)).0)

pub returns-then-within-clause-low : goal.returns-then-within-clause-low
returns-then-within-clause-low c = omega (arith, (between-true (code "A") (code "F") _ (sym c.within.ensures ∙ c.if-within.true)).1)

pub returns-then-within-clause-value : goal.returns-then-within-clause-value
returns-then-within-clause-value c = told (unfold hex_digit in rw (sym c.is_digit.ensures ∙ c.if-is_digit.false, sym c.within.ensures ∙ c.if-within.true)) (returns-then-within-clause-low c)

pub overflow_sub-result-then-within-2 : goal.overflow_sub-result-then-within-2
overflow_sub-result-then-within-2 c = omega (arith, (between-true (code "a") (code "f") _ (sym c.within-2.ensures ∙ c.if-within-2.true)).0)

pub returns-then-within-2-clause-low : goal.returns-then-within-2-clause-low
returns-then-within-2-clause-low c = omega (arith, (between-true (code "a") (code "f") _ (sym c.within-2.ensures ∙ c.if-within-2.true)).1)

pub returns-then-within-2-clause-value : goal.returns-then-within-2-clause-value
returns-then-within-2-clause-value c = told (unfold hex_digit in rw (sym c.is_digit.ensures ∙ c.if-is_digit.false, sym c.within.ensures ∙ c.if-within.false, sym c.within-2.ensures ∙ c.if-within-2.true)) (returns-then-within-2-clause-low c)

pub returns-clause-value : goal.returns-clause-value
unfolding hex_digit when
returns-clause-value c = rw (sym c.is_digit.ensures ∙ c.if-is_digit.false, sym c.within.ensures ∙ c.if-within.false, sym c.within-2.ensures ∙ c.if-within-2.false)
