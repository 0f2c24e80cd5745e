-- `content::fold::fold_cased` meets its contract.
use native.Mathlib.Omega.{arith}
use Rattle.octets.proofs.Limits.{most-columns}
use Rattle.content.proofs.fold.fold_cased.Goals as goal

pub fold_run-requires : goal.fold_run-requires
fold_run-requires g c = omega (arith, most-columns)
