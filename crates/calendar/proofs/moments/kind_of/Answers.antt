-- `calendar::moments::kind_of` meets its contract: its tests are the definition's.
use borrow.Author.Tests.{le-leb, lt-leb}
use Rattle.calendar.specs.Texts.{kind_at}
use Rattle.calendar.proofs.moments.kind_of.Goals as goal

pub returns-then-t-le10 : goal.returns-then-t-le10
returns-then-t-le10 c = unfold kind_at in rw (le-leb _ _ c.if-t-le10.true)

pub returns-then-t-le19 : goal.returns-then-t-le19
returns-then-t-le19 c = unfold kind_at in rw (lt-leb _ _ c.if-t-le10.false, le-leb _ _ c.if-t-le19.true)

pub returns : goal.returns
returns c = unfold kind_at in rw (lt-leb _ _ c.if-t-le10.false, lt-leb _ _ c.if-t-le19.false)
