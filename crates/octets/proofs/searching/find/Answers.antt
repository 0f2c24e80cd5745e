-- `octets::find` meets its contract.
use Prim.Native.Nat.{◌+◌}
use mathlib.Core.Path.{ap, ◌∙◌}
use lib.ListN.{drop}
use Rattle.octets.proofs.Search.{passed_by}
use Rattle.octets.proofs.searching.find.Goals as goal

pub returns : goal.returns
returns c = c.long_run_end.ensures ∙ ap (λ n. c.args.at + n) (passed_by c.args.b (drop c.args.at c.args.s.now))
