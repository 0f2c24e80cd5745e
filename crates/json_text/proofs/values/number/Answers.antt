-- `json_text::values::number` meets its contract.
use Prim.Native.Nat.{◌<◌}
use native.Mathlib.Omega.{arith}
use lib.ListN.{length}
use Rattle.octets.proofs.Pen as pens
use Rattle.json_text.specs.Promise.{read, not-json}
use Rattle.json_text.proofs.Outs.{given}
use Rattle.json_text.proofs.Sizes.{start-less}
use Rattle.json_text.proofs.NumberLaws.{was-behind, was-nothing}
use Rattle.json_text.proofs.ValueLaws.{number-reads, number-none}
use Rattle.json_text.proofs.values.number.Goals as goal

pub returns-in_default : goal.returns-in_default
returns-in_default c = not-json (number-none _ (was-nothing c.past_number.ensures c.in_default.is))

pub slice_bounds-put_all-count : goal.slice_bounds-put_all-count
slice_bounds-put_all-count c = omega (arith, given (λ _ t. length t < length c.args.text.now) (was-behind c.past_number.ensures c.in-Some.is) (start-less c.args.text.now))

pub returns : goal.returns
returns c = read _ (number-reads c.args.text.now (was-behind c.past_number.ensures c.in-Some.is)) (pens.then c.put-p.ensures (pens.then c.put_all-q.ensures c.put.ensures))
