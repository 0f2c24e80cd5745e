-- `jcal::testing::test_properties` meets its contract.
use mathlib.Core.Path.{refl, sym, ◌∙◌}
use Rattle.std.proofs.lemmas.Result.{err_from_is_err_and}
use Rattle.jcal.proofs.PropertyTests.{turn-none, turn_on, turn-off}
use Rattle.jcal.proofs.testing.test_properties.Goals as goal

pub loop-line-init : goal.loop-line-init
loop-line-init c = rw c.into_iter-line-iterator.ensures.into_iter_gives (refl, refl)

pub test_line-requires : goal.test_line-requires
test_line-requires c = let g = rw c.loop-line.invariant.0 at c.in-Some.ensures.steps in
    record { line_at = rw g.begins g.is; tells = rw g.begins g.tells }

pub loop-line-preserved : goal.loop-line-preserved
loop-line-preserved c = let g = rw c.loop-line.invariant.0 at c.in-Some.ensures.steps in
    (g.same, rw g.on (c.loop-line.invariant.1 ∙ turn_on _ c.args.calendar.lines.now c.loop-line.line-iterator.at _ g.is (rw g.begins at c.in_ok-test_line.ensures)))

pub returns-in_err-test_line : goal.returns-in_err-test_line
returns-in_err-test_line c = let p = err_from_is_err_and c.from_residual.result c.from_residual.ensures.1 in
    let g = rw c.loop-line.invariant.0 at c.in-Some.ensures.steps in
    rw (p.1, p.2) (turn-off _ c.args.calendar.lines.now c.loop-line.line-iterator.at _ g.is _ (rw g.begins at c.in_err-test_line.ensures) ∙ sym c.loop-line.invariant.1)

pub returns : goal.returns
returns c = let g = rw c.loop-line.invariant.0 at c.in-None.ensures.steps in turn-none _ c.args.calendar.lines.now c.loop-line.line-iterator.at g.past ∙ sym c.loop-line.invariant.1
