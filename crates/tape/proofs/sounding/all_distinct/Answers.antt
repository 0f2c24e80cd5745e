-- `tape::sounding::all_distinct` meets its contract. The loop's invariant: the keys from here on tell of all.
use mathlib.Core.Path.{sym, ◌∙◌}
use mathlib.Core.Bool.{false≢true}
use native.Mathlib.Omega.{arith}
use Rattle.tape.proofs.Scans.{keys-start, keys-past, keys-object}
use Rattle.tape.proofs.sounding.all_distinct.Goals as goal

pub loop-i-init : goal.loop-i-init
loop-i-init c = c.next_object-i.ensures.1 ∙ keys-start _

pub returns-then-i-eq0 : goal.returns-then-i-eq0
returns-then-i-eq0 c = λ e. absurd (false≢true e)

pub loop-i-smaller : goal.loop-i-smaller
loop-i-smaller c = omega (arith, c.next_object-i-in-loop-i.ensures.0, c.loop-i-test.true)

pub loop-i-preserved : goal.loop-i-preserved
loop-i-preserved c = c.next_object-i-in-loop-i.ensures.1 ∙ keys-object c.args.t.now c.loop-i.i c.loop-i-test.true (sym c.keys_distinct.ensures ∙ c.if-not-keys_distinct.false) ∙ c.loop-i.invariant

pub returns : goal.returns
returns c = λ _. sym c.loop-i.invariant ∙ keys-past _ _ c.loop-i-test.false
