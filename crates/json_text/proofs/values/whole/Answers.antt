-- `json_text::values::whole` meets its contract.
use mathlib.Core.Path.{sym, ◌∙◌}
use borrow.Author.Tests.{eqb-true, eqb-false}
use lib.ListN.{length}
use Rattle.octets.specs.Limits.{most_open}
use Rattle.std.proofs.lemmas.Result.{err_from_is_err_and}
use Rattle.json_text.specs.Promise.{read, not-json}
use Rattle.json_text.proofs.Agreements.{was_read}
use Rattle.json_text.proofs.ValueLaws.{text-fails, text-more, text-whole}
use Rattle.json_text.proofs.values.whole.Goals as goal

pub returns-in_err-behind : goal.returns-in_err-behind
unfolding most_open
returns-in_err-behind c = let p = err_from_is_err_and c.from_residual.result c.from_residual.ensures.1 in rw (p.1, p.2) (text-fails c.args.text.now c.past_space.ensures (rw c.in_err-behind.was at c.value.ensures))

pub returns-then-not-is_empty : goal.returns-then-not-is_empty
unfolding most_open
returns-then-not-is_empty c = not-json (text-more c.args.text.now c.past_space.ensures (was_read c.value.ensures c.in_ok-behind.was) c.past_space-rest.ensures (eqb-false (length c.past_space-rest.result.now) 0 (sym c.is_empty.ensures ∙ c.if-not-is_empty.true)))

pub returns : goal.returns
unfolding most_open
returns c = let x = was_read c.value.ensures c.in_ok-behind.was in
    read x.it (text-whole c.args.text.now c.past_space.ensures x c.past_space-rest.ensures (eqb-true (length c.past_space-rest.result.now) 0 (sym c.is_empty.ensures ∙ c.if-not-is_empty.false))) x.wrote
