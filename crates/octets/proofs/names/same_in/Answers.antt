-- `octets::same_in` meets its contract.
use mathlib.Core.Path.{refl, sym, ◌∙◌}
use native.Mathlib.Omega.{arith}
use Rattle.octets.specs.Groups.{cased}
use Rattle.octets.proofs.Classes.{cased-length, cased_on, cased-stop, cased-end}
use Rattle.octets.proofs.names.same_in.Goals as goal

pub returns-then-a-b : goal.returns-then-a-b
returns-then-a-b c = let a = c.args in sym (cased-length (cased a.case) a.a.now a.b.now c.if-a-b.true)

pub loop-i-init : goal.loop-i-init
loop-i-init c = (omega arith, refl)

pub returns-then-turn : goal.returns-then-turn
returns-then-turn c = let a = c.args in
    sym (c.loop-i.invariant.1 ∙ cased-stop (cased a.case) a.a.now a.b.now c.loop-i.i c.loop-i-test.true (omega arith) (λ e. c.if-turn.true (c.turn.ensures ∙ e ∙ sym c.turn-in-loop-i.ensures)))

pub loop-i-preserved : goal.loop-i-preserved
loop-i-preserved c = let a = c.args in
    (c.loop-i.invariant.0, c.loop-i.invariant.1 ∙ cased_on (cased a.case) a.a.now a.b.now c.loop-i.i c.loop-i-test.true (omega arith) (sym c.turn.ensures ∙ c.if-turn.false ∙ c.turn-in-loop-i.ensures))

pub returns : goal.returns
returns c = let a = c.args in
    sym (c.loop-i.invariant.1 ∙ cased-end (cased a.case) a.a.now a.b.now _ c.loop-i-test.false (omega arith))
