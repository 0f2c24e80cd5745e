-- `octets::value_of` meets its contract.
use mathlib.Core.Path.{refl, ◌∙◌}
use native.Mathlib.Omega.{arith}
use Rattle.octets.specs.Decimal.{value_of}
use Rattle.octets.proofs.Decimal.{value_on, value-end}
use Rattle.octets.proofs.numbers.value_of.Goals as goal

pub loop-c-init : goal.loop-c-init
loop-c-init c = unfold value_of in (omega arith, refl, refl)

pub loop-c-preserved : goal.loop-c-preserved
loop-c-preserved c = (omega (arith, c.next_value-value.ensures), omega arith, rw c.next_value-value.ensures (value_on _ _ c.loop-c-test.true _ _ ∙ c.loop-c.invariant.2))

pub returns : goal.returns
returns c = rw (← c.loop-c.invariant.1) (value-end _ _ c.loop-c-test.false _ _ c.loop-c.invariant.0 ∙ c.loop-c.invariant.2)
