-- `tape::walking::count` meets its contract.
use mathlib.Core.Path.{sym, ◌∙◌}
use native.Mathlib.Omega.{arith}
use Rattle.tape.proofs.Walks.{counting-start, counting-next, counting-end, counting-full}
use Rattle.tape.proofs.walking.count.Goals as goal

pub loop-n-init : goal.loop-n-init
loop-n-init c = counting-start

pub returns-then-tag : goal.returns-then-tag
returns-then-tag c = counting-end c.loop-n.invariant (sym c.tag.ensures ∙ c.if-tag.true)

pub loop-n-preserved : goal.loop-n-preserved
loop-n-preserved c = counting-next c.loop-n.invariant (λ e. c.if-tag.false (c.tag.ensures ∙ e)) c.behind-i.ensures c.loop-n-test.true

pub returns : goal.returns
returns c = let q = counting-full c.loop-n.invariant c.loop-n-test.false in omega (arith, q)
