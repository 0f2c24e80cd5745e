-- `types::kinds::ValueType::of_code` meets its contract.
use mathlib.Core.Path.{sym}
use native.Mathlib.Omega.{arith}
use Rattle.types.proofs.Types.{code-of-other}
use Rattle.types.proofs.kinds.ValueType.of_code.Goals as goal

pub returns-in_default : goal.returns-in_default
returns-in_default c = sym (code-of-other _ (λ l h. omega (arith, l, h)))
