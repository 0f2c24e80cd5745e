-- `octets::slot_of` meets its contract.
use mathlib.Core.Path.{◌∙◌}
use native.Mathlib.Omega.{arith}
use Rattle.octets.specs.Groups.{cased}
use Rattle.octets.proofs.Slots.{slot-start, slot-on, slot-end}
use Rattle.octets.proofs.tables.slot_of.Goals as goal

pub loop-c-init : goal.loop-c-init
loop-c-init c = (omega arith, slot-start (cased c.args.case) c.args.name.now)

pub loop-c-preserved : goal.loop-c-preserved
loop-c-preserved c = let l = c.loop-c in
    (omega arith, rw c.turn.ensures (slot-on (cased c.args.case) _ l.c-index l.h c.loop-c-test.true ∙ l.invariant.1))

pub returns : goal.returns
returns c = let l = c.loop-c in slot-end (cased c.args.case) _ l.c-index l.h c.loop-c-test.false ∙ l.invariant.1
