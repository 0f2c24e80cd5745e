-- `content::write::is_quoted` meets its contract.
use mathlib.Core.Path.{refl, sym, ◌∙◌}
use Rattle.octets.specs.Basics.{any}
use Rattle.octets.proofs.Positions.{here, ended}
use Rattle.content.proofs.write.is_quoted.Goals as goal

pub loop-c-init : goal.loop-c-init
loop-c-init c = refl

pub returns-then-asks_quotes : goal.returns-then-asks_quotes
unfolding any
returns-then-asks_quotes c = sym (c.loop-c.invariant ∙ rw (here _ _ c.loop-c-test.true, ← c.asks_quotes.ensures, c.if-asks_quotes.true))

pub loop-c-preserved : goal.loop-c-preserved
unfolding any
loop-c-preserved c = c.loop-c.invariant ∙ rw (here _ _ c.loop-c-test.true, ← c.asks_quotes.ensures, c.if-asks_quotes.false)

pub returns : goal.returns
unfolding any
returns c = sym (c.loop-c.invariant ∙ rw (ended _ _ c.loop-c-test.false))
