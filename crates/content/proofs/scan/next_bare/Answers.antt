-- `content::scan::next_bare` meets its contract.
use mathlib.Core.Path.{◌∙◌}
use mathlib.Core.Bool.{false}
use native.Mathlib.Omega.{arith}
use lib.Dec.{eqb}
use lib.ListN.{drop, length-drop}
use Rattle.octets.specs.Basics.{◌or◌}
use Rattle.octets.proofs.Positions.{from}
use Rattle.content.proofs.Scanning.{bare-le, bare-none}
use Rattle.content.proofs.scan.next_bare.Goals as goal

pub overflow_add-result : goal.overflow_add-result
overflow_add-result c = let q = rw (c.in-Some.ensures.lookup.0.2 ∙ from c.args.s.now c.args.at) at c.first_bare.ensures in
    omega (arith, q, c.in-Some.ensures.lookup.0.0, bare-le (λ x. eqb x c.args.a or eqb x c.args.b) false (drop c.args.at c.args.s.now), length-drop c.args.at c.args.s.now)

pub returns-in-None : goal.returns-in-None
returns-in-None c = omega (arith, bare-none (λ x. eqb x c.args.a or eqb x c.args.b) c.args.s.now c.args.at false (omega (arith, c.in-None.ensures.lookup)))
