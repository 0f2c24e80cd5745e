-- `ical_values::escaping::write_text` meets its contract.
use mathlib.Core.Path.{refl, sym, ◌∙◌}
use native.Mathlib.Omega.{arith}
use Rattle.octets.proofs.Pen.{front-behind}
use Rattle.octets.proofs.Runs.{run-found}
use Rattle.ical_values.proofs.TextRuns.{run_is, run-text, text-here, text-on, text-stop, text-ended}
use Rattle.content.proofs.Folding.{none, then, leads-start, leads-on, leads-end}
use Rattle.ical_values.proofs.escaping.write_text.Goals as goal

pub loop-q-init : goal.loop-q-init
loop-q-init c = (omega arith, (_, none), refl, leads-start)

pub slice_bounds-fold_all-start : goal.slice_bounds-fold_all-start
slice_bounds-fold_all-start c = let run = run-found _ _ _ c.loop-q.invariant.0 c.long_run_end-end.ensures in
    run.above

pub slice_bounds-fold_all-end : goal.slice_bounds-fold_all-end
slice_bounds-fold_all-end c = let run = run-found _ _ _ c.loop-q.invariant.0 c.long_run_end-end.ensures in
    run.below

pub returns-then-end-s : goal.returns-then-end-s
returns-then-end-s c = let run = run-found _ _ _ c.loop-q.invariant.0 c.long_run_end-end.ensures in
    let end = text-ended c.args.s.now c.long_run_end-end.result (omega arith) in
    (sym c.loop-q.invariant.2 ∙ run_is run ∙ end.0, leads-end (leads-on c.loop-q.invariant.3 c.fold_all-q.ensures (run-text run)) end.1)

pub bounds-s-end : goal.bounds-s-end
bounds-s-end c = let run = run-found _ _ _ c.loop-q.invariant.0 c.long_run_end-end.ensures in
    omega (arith, run.below)

pub overflow_add-i : goal.overflow_add-i
overflow_add-i c = let run = run-found _ _ _ c.loop-q.invariant.0 c.long_run_end-end.ensures in
    omega (arith, run.below)

pub loop-q-smaller : goal.loop-q-smaller
loop-q-smaller c = let run = run-found _ _ _ c.loop-q.invariant.0 c.long_run_end-end.ensures in
    omega (arith, run.above, run.below, c.loop-q.invariant.0)

pub loop-q-preserved : goal.loop-q-preserved
loop-q-preserved c = let run = run-found _ _ _ c.loop-q.invariant.0 c.long_run_end-end.ensures in
    let w = c.in_ok-q.ensures in
    (omega (arith, run.below), (_, then (then c.loop-q.invariant.1.1 c.fold_all-q.ensures) w.1), sym (text-on c.args.s.now c.long_run_end-end.result (omega (arith, run.below)) w.0) ∙ sym (run_is run) ∙ c.loop-q.invariant.2, leads-on (leads-on c.loop-q.invariant.3 c.fold_all-q.ensures (run-text run)) w.1 (text-here c.args.s.now c.long_run_end-end.result (omega (arith, run.below))))

pub returns-in_err-q : goal.returns-in_err-q
returns-in_err-q c = let run = run-found _ _ _ c.loop-q.invariant.0 c.long_run_end-end.ensures in
    let w = c.in_err-q.ensures in
    rw c.from_residual.ensures (sym c.loop-q.invariant.2 ∙ run_is run ∙ text-stop c.args.s.now c.long_run_end-end.result (omega (arith, run.below)) w.0, front-behind (then c.loop-q.invariant.1.1 c.fold_all-q.ensures).wrote w.1)
