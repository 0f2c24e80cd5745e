-- `json_text::strings::string` meets its contract.
use mathlib.Core.Path.{refl, ap, ◌∙◌}
use native.Mathlib.Omega.{arith}
use lib.ListN.{length, get_or}
use Rattle.octets.specs.Groups.{json_unescaped}
use Rattle.std.proofs.lemmas.Result.{err_from_is_err_and}
use Rattle.octets.proofs.Positions.{first_of}
use Rattle.octets.proofs.Runs.{run-found, run-next, inside_is}
use Rattle.json_text.proofs.Agreements.{begins, was_read, agrees-behind, going_start}
use Rattle.json_text.proofs.Texts.{text-run, text-close, text-none, text-fails, text-escape, escape-less}
use Rattle.json_text.proofs.strings.string.Goals as goal
use Rattle.json_text.proofs.strings.string.Goals.{in_default-via-then-ended-lt1, in_default-via-else-ended-lt1+in_default-1}

pub split_at-requires : goal.split_at-requires
split_at-requires c = let w = (run-found {class = json_unescaped} c.loop-ended.left.now 0 c.long_run_end-n.result (omega arith) c.long_run_end-n.ensures) in w.below

pub loop-ended-init : goal.loop-ended-init
loop-ended-init c = (refl, going_start)

pub returns-in-34 : goal.returns-in-34
returns-in-34 c = agrees-behind c.put-p.ensures (text-close (text-run c.loop-ended.invariant.1 (run-found {class = json_unescaped} c.loop-ended.left.now 0 c.long_run_end-n.result (omega arith) c.long_run_end-n.ensures) (rw c.split_at.ensures.front at c.put_all-q.ensures) c.split_at.ensures.back) (begins c.split_at.result.1.now 34 (omega arith) (omega arith)) c.put.ensures)

pub returns-in_err-behind-in-92 : goal.returns-in_err-behind-in-92
returns-in_err-behind-in-92 c = let p = err_from_is_err_and c.from_residual.result c.from_residual.ensures.1 in rw (p.1, p.2) (agrees-behind c.put-p.ensures (text-fails (text-run c.loop-ended.invariant.1 (run-found {class = json_unescaped} c.loop-ended.left.now 0 c.long_run_end-n.result (omega arith) c.long_run_end-n.ensures) (rw c.split_at.ensures.front at c.put_all-q.ensures) c.split_at.ensures.back) (begins c.split_at.result.1.now 92 (omega arith) (omega arith)) (rw c.in_err-behind-in-92.was at c.escape.ensures)))

pub loop-ended-smaller : goal.loop-ended-smaller
loop-ended-smaller c = let x = was_read c.escape.ensures c.in_ok-behind-in-92.was in omega (arith, escape-less _ x.is, ap length (begins c.split_at.result.1.now 92 (omega arith) (omega arith)), c.split_at.ensures.back_len)

pub loop-ended-preserved : goal.loop-ended-preserved
loop-ended-preserved c = (omega arith, text-escape (text-run c.loop-ended.invariant.1 (run-found {class = json_unescaped} c.loop-ended.left.now 0 c.long_run_end-n.result (omega arith) c.long_run_end-n.ensures) (rw c.split_at.ensures.front at c.put_all-q.ensures) c.split_at.ensures.back) (begins c.split_at.result.1.now 92 (omega arith) (omega arith)) (was_read c.escape.ensures c.in_ok-behind-in-92.was))

pub returns-in_default : goal.returns-in_default
unfolding json_unescaped
returns-in_default c = agrees-behind c.put-p.ensures (text-none (text-run c.loop-ended.invariant.1 (run-found {class = json_unescaped} c.loop-ended.left.now 0 c.long_run_end-n.result (omega arith) c.long_run_end-n.ensures) (rw c.split_at.ensures.front at c.put_all-q.ensures) c.split_at.ensures.back) (ap json_unescaped (ap (λ l. get_or l 0 0) c.split_at.ensures.back ∙ first_of c.loop-ended.left.now c.long_run_end-n.result) ∙ run-next refl (run-found {class = json_unescaped} c.loop-ended.left.now 0 c.long_run_end-n.result (omega arith) c.long_run_end-n.ensures)) (λ h. elim c.in_default.branch [ in_default-via-then-ended-lt1 w ↦ grind (arith, inside_is c.split_at.result.1.now 0 34 h (omega arith), w) | in_default-via-else-ended-lt1+in_default-1 w ↦ grind (arith, h, w) ]) (λ h. elim c.in_default.branch [ in_default-via-then-ended-lt1 w ↦ grind (arith, inside_is c.split_at.result.1.now 0 92 h (omega arith), w) | in_default-via-else-ended-lt1+in_default-1 w ↦ grind (arith, h, w) ]))
