-- `json_text::values::key` meets its contract.
use native.Mathlib.Omega.{arith}
use Rattle.std.proofs.lemmas.Result.{err_from_is_err_and}
use Rattle.octets.proofs.Runs.{inside_is}
use Rattle.json_text.proofs.Agreements.{begins, was_read, agrees-by, agrees-fails}
use Rattle.json_text.proofs.ValueLaws.{key-none, key-quote, key-bare, key-read}
use Rattle.json_text.specs.Promise.{read, not-json}
use Rattle.json_text.proofs.values.key.Goals as goal
use Rattle.json_text.proofs.values.key.Goals.{in_default-via-then-text-lt1, in_default-via-else-text-lt1+in_default-1, in_default-past_space-via-then-past_space-lt1, in_default-past_space-via-else-past_space-lt1+in_default-1}

pub returns-in_default : goal.returns-in_default
returns-in_default c = not-json (key-none c.args.text.now (λ h. elim c.in_default.branch [ in_default-via-then-text-lt1 w ↦ grind (arith, inside_is c.args.text.now 0 34 h (omega arith), w) | in_default-via-else-text-lt1+in_default-1 w ↦ grind (arith, h, w) ]))

pub returns-in_err-behind : goal.returns-in_err-behind
returns-in_err-behind c = let p = err_from_is_err_and c.from_residual.result c.from_residual.ensures.1 in rw (p.1, p.2) (agrees-by (key-quote (begins c.args.text.now 34 (omega arith) (omega arith))) (agrees-fails _ (rw c.in_err-behind.was at c.string.ensures)))

pub returns-in_default-past_space : goal.returns-in_default-past_space
returns-in_default-past_space c = not-json (key-bare (begins c.args.text.now 34 (omega arith) (omega arith)) (was_read c.string.ensures c.in_ok-behind.was) c.past_space.ensures
    (λ h. elim c.in_default-past_space.branch [ in_default-past_space-via-then-past_space-lt1 w ↦ grind (arith, inside_is c.past_space.result.now 0 58 h (omega arith), w) | in_default-past_space-via-else-past_space-lt1+in_default-1 w ↦ grind (arith, h, w) ]))

pub returns : goal.returns
returns c = let x = was_read c.string.ensures c.in_ok-behind.was in
    read x.it (key-read (begins c.args.text.now 34 (omega arith) (omega arith)) x c.past_space.ensures (begins _ 58 (omega arith) (omega arith)) c.past_space-2.ensures) x.wrote
