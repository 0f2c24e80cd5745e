-- `stop_list::list_stops` meets its contract: the plan, and its stops laid in the list.
use mathlib.Core.Path.{refl}
use Rattle.std.proofs.lemmas.Result.{err_from_is_err_and}
use Rattle.stop_list.proofs.PlanAnswers.{refusal_lists, run_lists}
use Rattle.stop_list.proofs.list_stops.Goals as goal

pub returns-in_err-run : goal.returns-in_err-run
returns-in_err-run c = let p = err_from_is_err_and c.from_residual.result c.from_residual.ensures.1 in
    rw (p.1, p.2) (refusal_lists _ _ _ _ c.in_err-run.ensures)

pub fill-requires : goal.fill-requires
fill-requires c = let p = c.in_ok-run.ensures in (p.live _ refl, p.fits _ refl)

pub returns : goal.returns
returns c = run_lists _ _ _ _ _ _ c.in_ok-run.ensures c.fill.ensures
