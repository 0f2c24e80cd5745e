-- `json_text::numbers::past_digits` meets its contract.
use native.Mathlib.Omega.{arith}
use Rattle.octets.specs.Classes.{is_digit}
use Rattle.octets.proofs.Positions.{from}
use Rattle.octets.proofs.Runs.{run-found}
use Rattle.json_text.specs.Promise.{some-digits, no-digits}
use Rattle.json_text.proofs.numbers.past_digits.Goals as goal

pub slice_bounds-result-count : goal.slice_bounds-result-count
slice_bounds-result-count c = let w = run-found c.args.text.now 0 c.run_end-n.result (omega arith) c.run_end-n.ensures in w.below

pub slice_bounds-result-start : goal.slice_bounds-result-start
slice_bounds-result-start c = let w = run-found c.args.text.now 0 c.run_end-n.result (omega arith) c.run_end-n.ensures in omega (arith, w.below)

pub returns-then-n-eq0 : goal.returns-then-n-eq0
returns-then-n-eq0 c = no-digits (rw c.if-n-eq0.true at (run-found {class = is_digit} c.args.text.now 0 c.run_end-n.result (omega arith) c.run_end-n.ensures))

pub returns-else-n-eq0 : goal.returns-else-n-eq0
returns-else-n-eq0 c = some-digits (run-found c.args.text.now 0 c.run_end-n.result (omega arith) c.run_end-n.ensures) (omega (arith, c.if-n-eq0.false)) (from c.args.text.now c.run_end-n.result)
