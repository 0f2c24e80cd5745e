-- `stop_list::Stop::moved` meets its contract: the moment's answer decides.
use Rattle.std.proofs.lemmas.Result.{err_from_is_err_and}
use mathlib.Core.Path.{sym, ◌∙◌}
use Rattle.stop_list.specs.Runs.{stop_at, stop_on}
use Rattle.stop_list.proofs.Stop.moved.Goals as goal

pub returns-in_err-stop : goal.returns-in_err-stop
returns-in_err-stop c = let p = err_from_is_err_and c.from_residual.result c.from_residual.ensures.1 in
    unfold stop_at stop_on in rw (p.1, p.2, sym c.moved.ensures ∙ c.in_err-stop.was)

pub returns : goal.returns
returns c = unfold stop_at stop_on in rw (sym c.moved.ensures ∙ c.in_ok-stop.was)
