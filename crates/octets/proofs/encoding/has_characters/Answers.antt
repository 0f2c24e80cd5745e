-- `octets::has_characters` meets its contract.
use mathlib.Core.Path.{refl, sym, ◌∙◌}
use native.Mathlib.Omega.{arith}
use Rattle.octets.proofs.Characters.{utf8-on, utf8-stop, utf8-next, utf8-end}
use Rattle.octets.proofs.encoding.has_characters.Goals as goal

pub loop-i-init : goal.loop-i-init
loop-i-init c = (omega arith, refl)

pub loop-i-preserved-then-s-i-le127 : goal.loop-i-preserved-then-s-i-le127
loop-i-preserved-then-s-i-le127 c = (omega arith, c.loop-i.invariant.1 ∙ utf8-next _ _ c.loop-i-test.true c.if-s-i-le127.true)

pub returns-in_default : goal.returns-in_default
returns-in_default c = sym (c.loop-i.invariant.1 ∙ utf8-stop c.args.s.now c.loop-i.i (rw c.in_default.is at c.character.ensures))

pub loop-i-smaller : goal.loop-i-smaller
loop-i-smaller c = let e = rw c.in-Some.is at c.character.ensures in omega (arith, e.within, e.onward)

pub loop-i-preserved : goal.loop-i-preserved
loop-i-preserved c = let e = rw c.in-Some.is at c.character.ensures in (e.within, c.loop-i.invariant.1 ∙ utf8-on c.args.s.now c.loop-i.i _ e)

pub returns : goal.returns
returns c = sym (c.loop-i.invariant.1 ∙ utf8-end _ _ c.loop-i-test.false)
