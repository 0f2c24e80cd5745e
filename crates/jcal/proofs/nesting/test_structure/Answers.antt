-- `jcal::nesting::test_structure` meets its contract.
use mathlib.Core.Path.{refl, ◌∙◌}
use native.Mathlib.Omega.{arith}
use Rattle.std.proofs.lemmas.Result.{err_from_is_err_and}
use Rattle.octets.proofs.Limits.{most-levels}
use Rattle.conversion_theory.specs.Structure.{verdict}
use Rattle.jcal.specs.Order.{ordered}
use Rattle.jcal.specs.Nesting.{nest_of}
use Rattle.jcal.proofs.Order.{order-on, order-end}
use Rattle.jcal.proofs.OpenComponents.{nests_on, nests-refused, nests-end}
use Rattle.jcal.proofs.nesting.test_structure.Goals as goal

pub loop-line-init : goal.loop-line-init
loop-line-init c = unfold nest_of ordered in rw c.into_iter-line-iterator.ensures.into_iter_gives (refl, refl, rw most-levels (omega arith), refl)

pub invariant_of-named : goal.invariant_of-named
invariant_of-named c = let g = rw c.loop-line.invariant.0 at c.in-Some.ensures.steps in record { named = g.tells.names }

pub after_line-requires : goal.after_line-requires
after_line-requires c = c.loop-line.invariant.2

pub loop-line-preserved : goal.loop-line-preserved
loop-line-preserved c = let inv = c.loop-line.invariant in let g = rw inv.0 at c.in-Some.ensures.steps in
    let n = c.in_ok-nesting.ensures 0 in
    (g.same, rw g.on (inv.1 ∙ nests_on c.args.buf.now c.loop-line.names _ c.loop-line.line-iterator.at _ c.loop-line.nesting _ g.is g.tells _ c.in_ok-nesting.ensures), n.few, rw g.on (inv.3 ∙ order-on c.args.buf.now c.loop-line.line-iterator.at c.loop-line.in_order c.loop-line.behind _ _ c.keeps_order-in_order.result c.is_behind-behind.result g.is g.tells c.keeps_order-in_order.ensures c.is_behind-behind.ensures))

pub returns-in_err-nesting : goal.returns-in_err-nesting
unfolding verdict
returns-in_err-nesting c =
    let inv = c.loop-line.invariant in
    let g = rw inv.0 at c.in-Some.ensures.steps in
    let p = err_from_is_err_and c.from_residual.result c.from_residual.ensures.1 in
    rw (p.1, p.2, inv.1, nests-refused c.args.buf.now c.loop-line.names c.after_line.new.names c.loop-line.line-iterator.at _ c.loop-line.nesting _ g.is g.tells _ c.in_err-nesting.ensures)

pub returns : goal.returns
returns c = let inv = c.loop-line.invariant in let g = rw inv.0 at c.in-None.ensures.steps in
    rw (inv.1 ∙ nests-end c.args.buf.now c.loop-line.names c.loop-line.line-iterator.at c.loop-line.nesting g.past, inv.3 ∙ order-end c.args.buf.now c.loop-line.line-iterator.at c.loop-line.in_order c.loop-line.behind g.past) (c.at_end.ensures c.args.buf.now c.loop-line.names)
