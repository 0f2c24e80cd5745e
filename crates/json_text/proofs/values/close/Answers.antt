-- `json_text::values::close` meets its contract.
use native.Mathlib.Omega.{arith}
use Rattle.json_text.specs.Promise.{read, not-json}
use Rattle.json_text.proofs.Agreements.{begins}
use Rattle.json_text.proofs.Words.{octet-short, octet-differs, octet-same}
use Rattle.json_text.proofs.values.close.Goals as goal
use Rattle.json_text.proofs.values.close.Goals.{in_default-via-then-text-lt1, in_default-via-in-len1-up+else-b-end}

pub returns-in-len1-up : goal.returns-in-len1-up
returns-in-len1-up c = read tt (octet-same c.args.end (begins c.args.text.now c.args.end c.in-len1-up.len_at_least c.if-b-end.true)) c.put.ensures

pub returns-in_default : goal.returns-in_default
returns-in_default c = not-json (elim c.in_default.branch [ in_default-via-then-text-lt1 w ↦ octet-short c.args.end c.args.text.now (grind (arith, w)) | in_default-via-in-len1-up+else-b-end w ↦ octet-differs c.args.end c.args.text.now w.if-b-end.false ])
