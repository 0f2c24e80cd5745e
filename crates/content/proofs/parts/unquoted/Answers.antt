-- `content::parts::unquoted` meets its contract.
use mathlib.Core.Path.{sym}
use native.Mathlib.Omega.{arith}
use Rattle.content.proofs.ParamValues.{unquote-plain, unquote-quoted}
use Rattle.content.proofs.parts.unquoted.Goals as goal

pub returns-in_default : goal.returns-in_default
returns-in_default c = sym (unquote-plain c.args.v.now (λ h q. omega arith))

pub returns-then-first-ne34 : goal.returns-then-first-ne34
returns-then-first-ne34 c = sym (unquote-plain c.args.v.now (λ h q. c.if-first-ne34.true q))

pub returns : goal.returns
returns c = rw c.saturating_sub.ensures (sym (unquote-quoted c.args.v.now c.in-len1-up.len_at_least c.if-first-ne34.false))
