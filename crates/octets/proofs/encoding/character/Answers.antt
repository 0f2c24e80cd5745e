-- `octets::character` meets its contract.
use mathlib.Core.Path.{refl}
use native.Mathlib.Omega.{arith}
use Rattle.octets.specs.Utf8.{lead}
use Rattle.octets.proofs.Characters.{seen, begins, begins-not, lead_low, lead-one, lead-two, lead-three, lead_is, one-awaits, two-awaits, three-awaits, E0-awaits, ED-awaits, F0-awaits, F4-awaits}
use Rattle.octets.proofs.Utf8.{lead-above}
use Rattle.octets.proofs.encoding.character.Goals as goal

pub overflow_add-next : goal.overflow_add-next
overflow_add-next c = omega (arith, seen c.args.s.now c.args.i (omega arith))

pub returns-then-c-le193 : goal.returns-then-c-le193
returns-then-c-le193 c = begins-not c.args.s.now c.args.i _ c.peek-c.ensures c.requires (lead_low _ (omega arith) (omega arith))

pub returns-then-c-le223 : goal.returns-then-c-le223
returns-then-c-le223 c = begins c.args.s.now c.args.i _ c.peek-c.ensures c.requires _ _ (lead-one _ (omega arith) (omega arith)) (c.end_of.ensures _ one-awaits)

pub returns-then-c : goal.returns-then-c
unfolding lead
returns-then-c c = begins c.args.s.now c.args.i _ c.peek-c.ensures c.requires _ _ (lead_is 224 _ refl _ c.if-c.true) (c.end_of-then-c.ensures _ E0-awaits)

pub returns-then-c-2 : goal.returns-then-c-2
unfolding lead
returns-then-c-2 c = begins c.args.s.now c.args.i _ c.peek-c.ensures c.requires _ _ (lead_is 237 _ refl _ c.if-c-2.true) (c.end_of-then-c-2.ensures _ ED-awaits)

pub returns-then-c-le239 : goal.returns-then-c-le239
returns-then-c-le239 c = begins c.args.s.now c.args.i _ c.peek-c.ensures c.requires _ _ (lead-two _ (omega arith) (omega arith) c.if-c.false c.if-c-2.false) (c.end_of-then-c-le239.ensures _ two-awaits)

pub returns-then-c-3 : goal.returns-then-c-3
unfolding lead
returns-then-c-3 c = begins c.args.s.now c.args.i _ c.peek-c.ensures c.requires _ _ (lead_is 240 _ refl _ c.if-c-3.true) (c.end_of-then-c-3.ensures _ F0-awaits)

pub returns-then-c-le243 : goal.returns-then-c-le243
returns-then-c-le243 c = begins c.args.s.now c.args.i _ c.peek-c.ensures c.requires _ _ (lead-three _ (omega arith) (omega arith)) (c.end_of-then-c-le243.ensures _ three-awaits)

pub returns-then-c-4 : goal.returns-then-c-4
unfolding lead
returns-then-c-4 c = begins c.args.s.now c.args.i _ c.peek-c.ensures c.requires _ _ (lead_is 244 _ refl _ c.if-c-4.true) (c.end_of-then-c-4.ensures _ F4-awaits)

pub returns : goal.returns
returns c = begins-not c.args.s.now c.args.i _ c.peek-c.ensures c.requires (lead-above _ (omega arith))
