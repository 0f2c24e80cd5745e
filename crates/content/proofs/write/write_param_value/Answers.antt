-- `content::write::write_param_value` meets its contract.
use mathlib.Core.Path.{sym, ◌∙◌}
use native.Mathlib.Omega.{arith}
use Rattle.octets.proofs.Runs.{run-found}
use Rattle.content.specs.Write.{param_value_text, quoted_if}
use Rattle.content.proofs.Folding.{then}
use Rattle.content.proofs.Encoded.{encoded-whole}
use Rattle.content.proofs.write.write_param_value.Goals as goal

pub returns-then-is_quoted : goal.returns-then-is_quoted
unfolding param_value_text quoted_if
returns-then-is_quoted c = rw (← c.is_quoted.ensures, c.if-is_quoted.true)
    (then (then c.fold_octet-a.ensures c.fold_encoded-b.ensures) c.fold_octet.ensures)

pub returns-then-plain_end-v : goal.returns-then-plain_end-v
unfolding param_value_text quoted_if
returns-then-plain_end-v c = let v = c.args.v.now in
    let whole = encoded-whole v (run-found v 0 _ (omega arith) (sym c.if-plain_end-v.true ∙ c.plain_end.ensures)) in
    rw (← c.is_quoted.ensures, c.if-is_quoted.false, whole) c.fold_all.ensures

pub returns : goal.returns
unfolding param_value_text quoted_if
returns c = rw (← c.is_quoted.ensures, c.if-is_quoted.false) c.fold_encoded.ensures
