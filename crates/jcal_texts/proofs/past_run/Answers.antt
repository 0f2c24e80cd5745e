-- `jcal_texts::past_run` meets its contract.
use Rattle.octets.proofs.Runs.{run-found}
use Rattle.jcal_texts.proofs.past_run.Goals as goal

pub returns : goal.returns
returns c = run-found _ _ _ c.requires c.long_run_end.ensures
