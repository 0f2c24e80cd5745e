-- `content::fold::width` meets its contract.
use borrow.Author.Tests.{lt-ltb, le-ltb}
use Rattle.content.specs.Fold.{width}
use Rattle.content.proofs.fold.width.Goals as goal

pub returns-then-c-lt128 : goal.returns-then-c-lt128
returns-then-c-lt128 c = unfold width in rw (lt-ltb _ _ c.if-c-lt128.true)

pub returns-then-c-lt192 : goal.returns-then-c-lt192
unfolding width
returns-then-c-lt192 c = rw (le-ltb _ _ c.if-c-lt128.false, lt-ltb _ _ c.if-c-lt192.true)

pub returns-then-c-lt224 : goal.returns-then-c-lt224
unfolding width
returns-then-c-lt224 c = rw (le-ltb _ _ c.if-c-lt128.false, le-ltb _ _ c.if-c-lt192.false, lt-ltb _ _ c.if-c-lt224.true)

pub returns-then-c-lt240 : goal.returns-then-c-lt240
unfolding width
returns-then-c-lt240 c = rw (le-ltb _ _ c.if-c-lt128.false, le-ltb _ _ c.if-c-lt192.false, le-ltb _ _ c.if-c-lt224.false, lt-ltb _ _ c.if-c-lt240.true)

pub returns-else-c-lt240 : goal.returns-else-c-lt240
unfolding width
returns-else-c-lt240 c = rw (le-ltb _ _ c.if-c-lt128.false, le-ltb _ _ c.if-c-lt192.false, le-ltb _ _ c.if-c-lt224.false, le-ltb _ _ c.if-c-lt240.false)
