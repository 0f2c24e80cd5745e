-- `ical_recur::writing::fold_values` meets its contract: what is written is followed by the values ahead.
use mathlib.Core.Path.{refl, ap}
use mathlib.Core.List.{map}
use native.Mathlib.Omega.{arith}
use lib.Dec.{eqb}
use lib.ListN.{length}
use Rattle.std.proofs.Common.{rules, tests}
use Rattle.std.proofs.lemmas.List.{length_push}
use Rattle.std.proofs.lemmas.Iterator.Consumers.{YieldsList-turn, YieldsList-end, YieldsList-from_enumerate}
use Rattle.std.proofs.lemmas.Iterator.Splits.{YieldsList-from_slice_split}
use Rattle.octets.specs.Pieces.{split}
use Rattle.content.proofs.Folding.{leads-start, leads-on, leads-end, as-folded}
use Rattle.calendar.specs.Walk.{part_sort_said, item_shown, values_shown}
use Rattle.ical_recur.specs.Wording.{mark_before}
use Rattle.ical_recur.proofs.Splits.{left-all, turn, done}
use Rattle.ical_recur.proofs.writing.fold_values.Goals as goal

pub loop-n-init : goal.loop-n-init
unfolding values_shown
loop-n-init c = (refl, rw (left-all 44 (map (item_shown (part_sort_said c.args.sort)) (split 44 c.args.v.now))) leads-start)

pub loop-n-preserved : goal.loop-n-preserved
loop-n-preserved c =
    let t = YieldsList-turn (YieldsList-from_enumerate (YieldsList-from_slice_split _ (λ x. eqb x 44) c.args.v.now (cc) (cc) (cc) (λ x b q k. search (rules, tests))) (cc)) c.loop-n.yielded _ c.loop-n.yielded_by _ _ (c.in-Some.n, c.in-Some.item) c.in-Some.is c.next.ensures.steps in
    let q = turn 44 (item_shown (part_sort_said c.args.sort)) c.args.v.now (length c.loop-n.yielded) (c.in-Some.n, c.in-Some.item.now) t in
    rw (length_push c.loop-n.yielded (c.in-Some.n, c.in-Some.item)) (omega (arith, c.loop-n.invariant.0), leads-on (leads-on c.loop-n.invariant.1 (as-folded c.fold_comma-behind.ensures (ap (mark_before 44) q.0)) q.1) c.fold_item-q.ensures refl)

pub returns : goal.returns
returns c =
    let t = YieldsList-end (YieldsList-from_enumerate (YieldsList-from_slice_split _ (λ x. eqb x 44) c.args.v.now (cc) (cc) (cc) (λ x b q k. search (rules, tests))) (cc)) c.loop-n.yielded _ c.loop-n.yielded_by _ _ c.in-None.is c.next.ensures.steps in
    leads-end c.loop-n.invariant.1 (done 44 (item_shown (part_sort_said c.args.sort)) c.args.v.now (length c.loop-n.yielded) t.1)
