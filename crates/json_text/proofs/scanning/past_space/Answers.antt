-- `json_text::scanning::past_space` meets its contract.
use mathlib.Core.Path.{◌∙◌}
use native.Mathlib.Omega.{arith}
use Rattle.octets.specs.Classes.{is_space}
use Rattle.octets.proofs.Positions.{from}
use Rattle.octets.proofs.Runs.{run-found}
use Rattle.json_text.proofs.Words.{skip-run}
use Rattle.json_text.proofs.scanning.past_space.Goals as goal

pub slice_bounds-result-count : goal.slice_bounds-result-count
slice_bounds-result-count c = (run-found {class = is_space} c.args.text.now 0 c.run_end.result (omega arith) c.run_end.ensures).below

pub slice_bounds-result-start : goal.slice_bounds-result-start
slice_bounds-result-start c = let w = run-found {class = is_space} c.args.text.now 0 c.run_end.result (omega arith) c.run_end.ensures in omega (arith, w.below)

pub returns : goal.returns
returns c = from c.args.text.now c.run_end.result ∙ skip-run c.args.text.now (run-found {class = is_space} c.args.text.now 0 c.run_end.result (omega arith) c.run_end.ensures)
