-- `calendar::rules::read_parts` meets its contract: the parts that are passed make a rule with what is ahead, or nothing does.
use mathlib.Core.Path.{sym, ap, ◌∙◌}
use native.Mathlib.Omega.{arith}
use lib.Dec.{eqb}
use lib.ListN.{length}
use Rattle.std.proofs.Common.{rules, tests}
use Rattle.std.proofs.lemmas.List.{length_push}
use Rattle.std.proofs.lemmas.Iterator.Consumers.{YieldsList-turn, YieldsList-end}
use Rattle.std.proofs.lemmas.Iterator.Splits.{YieldsList-from_slice_split}
use Rattle.octets.specs.Optional.{map?}
use Rattle.octets.specs.Classes.{upper}
use Rattle.calendar.specs.Reading.{kept}
use Rattle.calendar.specs.Walk.{key_number, key_said, part_said}
use Rattle.calendar.proofs.RuleParts.{read_parts}
use Rattle.calendar.proofs.PartsRead.{gathered_none}
use Rattle.calendar.proofs.Keys.{key-count}
use Rattle.calendar.proofs.RuleLoop.{parts-all, parts_end, part-ends, part-begins, key-unknown, key-refused, key-on, rule_end}
use Rattle.calendar.proofs.rules.read_parts.Goals as goal

pub loop-part-init : goal.loop-part-init
loop-part-init c = rw (c.no_days.ensures, ← (parts-all c.args.s.now)) (gathered_none c.args.gather (read_parts (upper c.args.s.now)))

pub slice_bounds-values-count : goal.slice_bounds-values-count
slice_bounds-values-count c =
    let t = YieldsList-turn (YieldsList-from_slice_split _ (λ x. eqb x 59) c.args.s.now (cc) (cc) (cc) (λ x b q k. search (rules, tests))) c.loop-part.yielded _ c.loop-part.yielded_by _ _ c.in-Some.part c.in-Some.is c.next.ensures.steps in
    part-begins c.args.s.now (length c.loop-part.yielded) c.in-Some.part.now t (part_said c.first_part-at.result) c.first_part-at.ensures

pub slice_bounds-values-start : goal.slice_bounds-values-start
slice_bounds-values-start c =
    let t = YieldsList-turn (YieldsList-from_slice_split _ (λ x. eqb x 59) c.args.s.now (cc) (cc) (cc) (λ x b q k. search (rules, tests))) c.loop-part.yielded _ c.loop-part.yielded_by _ _ c.in-Some.part c.in-Some.is c.next.ensures.steps in
    part-begins c.args.s.now (length c.loop-part.yielded) c.in-Some.part.now t (part_said c.first_part-at.result) c.first_part-at.ensures

pub slice_bounds-values-end : goal.slice_bounds-values-end
slice_bounds-values-end c =
    let t = YieldsList-turn (YieldsList-from_slice_split _ (λ x. eqb x 59) c.args.s.now (cc) (cc) (cc) (λ x b q k. search (rules, tests))) c.loop-part.yielded _ c.loop-part.yielded_by _ _ c.in-Some.part c.in-Some.is c.next.ensures.steps in
    part-ends c.args.s.now (length c.loop-part.yielded) c.in-Some.part.now t (part_said c.first_part-at.result) c.first_part-at.ensures

pub returns-in_default : goal.returns-in_default
unfolding map?
returns-in_default c =
    let t = YieldsList-turn (YieldsList-from_slice_split _ (λ x. eqb x 59) c.args.s.now (cc) (cc) (cc) (λ x b q k. search (rules, tests))) c.loop-part.yielded _ c.loop-part.yielded_by _ _ c.in-Some.part c.in-Some.is c.next.ensures.steps in
    ap (map? (kept c.args.gather)) (key-unknown c.args.s.now (length c.loop-part.yielded) c.in-Some.part.now t (part_said c.first_part-at.result) c.first_part-at.ensures c.args.gather c.loop-part.seen c.loop-part.head c.loop-part.invariant _ (ap key_said c.in_default.is) (rw key-count (omega arith)))

pub returns-then-not-may_follow : goal.returns-then-not-may_follow
unfolding map?
returns-then-not-may_follow c =
    let t = YieldsList-turn (YieldsList-from_slice_split _ (λ x. eqb x 59) c.args.s.now (cc) (cc) (cc) (λ x b q k. search (rules, tests))) c.loop-part.yielded _ c.loop-part.yielded_by _ _ c.in-Some.part c.in-Some.is c.next.ensures.steps in
    ap (map? (kept c.args.gather)) (key-refused c.args.s.now (length c.loop-part.yielded) c.in-Some.part.now t (part_said c.first_part-at.result) c.first_part-at.ensures c.args.gather c.loop-part.seen c.loop-part.head c.loop-part.invariant
    (key_number c.in-Some-key.key) (ap key_said c.in-Some-key.is) (sym c.may_follow.ensures ∙ c.if-not-may_follow.true))

pub loop-part-preserved : goal.loop-part-preserved
loop-part-preserved c =
    let t = YieldsList-turn (YieldsList-from_slice_split _ (λ x. eqb x 59) c.args.s.now (cc) (cc) (cc) (λ x b q k. search (rules, tests))) c.loop-part.yielded _ c.loop-part.yielded_by _ _ c.in-Some.part c.in-Some.is c.next.ensures.steps in
    rw (length_push c.loop-part.yielded c.in-Some.part, c.with_value-head.ensures, c.place.ensures.0) (key-on c.args.s.now (length c.loop-part.yielded) c.in-Some.part.now t (part_said c.first_part-at.result) c.first_part-at.ensures c.args.gather c.loop-part.seen c.loop-part.head c.loop-part.invariant
    (key_number c.in-Some-key.key) (ap key_said c.in-Some-key.is) (sym c.may_follow.ensures ∙ c.if-not-may_follow.false))

pub returns : goal.returns
returns c =
    let t = YieldsList-end (YieldsList-from_slice_split _ (λ x. eqb x 59) c.args.s.now (cc) (cc) (cc) (λ x b q k. search (rules, tests))) c.loop-part.yielded _ c.loop-part.yielded_by _ _ c.in-None.is c.next.ensures.steps in
    c.rule_of.ensures ∙ rule_end c.args.gather c.args.s.now c.loop-part.seen c.loop-part.head (rw (parts_end c.args.s.now (length c.loop-part.yielded) t.1) at c.loop-part.invariant)
