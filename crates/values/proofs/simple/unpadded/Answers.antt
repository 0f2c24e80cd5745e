-- `values::simple::unpadded` meets its contract.
use Prim.Native.Nat.{ℕ}
use denote.Bor.{Bor}
use mathlib.Core.List.{List}
use Rattle.values.proofs.Binaries.{without_last}
use Rattle.values.proofs.simple.unpadded.Goals as goal

pub returns : goal.returns
returns c = rw c.unwrap_or.ensures (without_last (λ (x : Bor (List ℕ)). x.now) c.args.s c.strip_suffix.result c.strip_suffix.ensures.cases)
