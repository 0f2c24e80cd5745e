-- `octets::find_near` meets its contract.
use Prim.Native.Nat.{◌+◌}
use mathlib.Core.Path.{ap, ◌∙◌}
use lib.ListN.{drop}
use Rattle.octets.proofs.Search.{passed_by, near-place, far-place}
use Rattle.octets.proofs.searching.find_near.Goals as goal

pub returns-then-s-at : goal.returns-then-s-at
returns-then-s-at c = c.run_end.ensures ∙ ap (λ n. c.args.at + n) (passed_by c.args.b (drop c.args.at c.args.s.now))

pub returns-then-e-far : goal.returns-then-e-far
returns-then-e-far c = near-place c.args.b c.args.s.now c.args.at 16 c.run_end-e.ensures c.if-e-far.true

pub returns-else-e-far : goal.returns-else-e-far
returns-else-e-far c = c.find.ensures ∙ far-place c.args.b c.args.s.now c.args.at 16 c.run_end-e.ensures c.if-e-far.false
