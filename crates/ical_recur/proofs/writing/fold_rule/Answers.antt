-- `ical_recur::writing::fold_rule` meets its contract: what is written is followed by the parts ahead.
use Prim.Native.Nat.{◌-◌}
use mathlib.Core.Path.{refl}
use native.Mathlib.Omega.{arith}
use lib.ListN.{length, take, drop}
use Rattle.content.proofs.Folding.{leads-start, leads-on, leads-last}
use Rattle.calendar.specs.Walk.{part_said}
use Rattle.calendar.proofs.WrittenItems.{part-places, rule-more, rule-last}
use Rattle.calendar.proofs.RuleLoop.{part-inside}
use Rattle.ical_recur.proofs.writing.fold_rule.Goals as goal

pub loop-out-init : goal.loop-out-init
loop-out-init c = (omega arith, refl, leads-start)

pub fold_part-requires : goal.fold_part-requires
fold_part-requires c = part-places (take (length c.args.s.now - c.loop-out.from) (drop c.loop-out.from c.args.s.now)) (part_said c.first_part-part.result) c.first_part-part.ensures

pub returns-then-end-rest : goal.returns-then-end-rest
returns-then-end-rest c = leads-last c.loop-out.invariant.2 c.fold_part.ensures (rule-last c.args.s.now c.loop-out.from (part_said c.first_part-part.result) c.first_part-part.ensures c.if-end-rest.true)

pub fold_part-f-requires : goal.fold_part-f-requires
fold_part-f-requires c = part-places (take (length c.args.s.now - c.loop-out.from) (drop c.loop-out.from c.args.s.now)) (part_said c.first_part-part.result) c.first_part-part.ensures

pub overflow_add-from : goal.overflow_add-from
overflow_add-from c = let e = part-inside c.args.s.now c.loop-out.from (part_said c.first_part-part.result) c.first_part-part.ensures c.if-end-rest.false in
    omega arith

pub overflow_add-from-in-loop-out : goal.overflow_add-from-in-loop-out
overflow_add-from-in-loop-out c = let e = part-inside c.args.s.now c.loop-out.from (part_said c.first_part-part.result) c.first_part-part.ensures c.if-end-rest.false in
    omega arith

pub loop-out-smaller : goal.loop-out-smaller
loop-out-smaller c = let e = part-inside c.args.s.now c.loop-out.from (part_said c.first_part-part.result) c.first_part-part.ensures c.if-end-rest.false in
    omega arith

pub loop-out-preserved : goal.loop-out-preserved
loop-out-preserved c = let e = part-inside c.args.s.now c.loop-out.from (part_said c.first_part-part.result) c.first_part-part.ensures c.if-end-rest.false in
    (omega arith, omega arith, leads-on (leads-on c.loop-out.invariant.2 c.fold_part-f.ensures (rule-more c.args.s.now c.loop-out.from (part_said c.first_part-part.result) c.first_part-part.ensures c.if-end-rest.false)) c.fold_octet-q.ensures refl)
