-- `jcal_values::raw::put_tested_list` meets its contract.
use mathlib.Core.Path.{refl, ◌∙◌}
use native.Mathlib.Omega.{arith}
use lib.Dec.{eqb}
use Rattle.std.proofs.Common.{rules, tests}
use Rattle.std.proofs.lemmas.List.{length_push}
use Rattle.std.proofs.lemmas.Iterator.Consumers.{YieldsList-turn, YieldsList-end, YieldsList-from_enumerate}
use Rattle.std.proofs.lemmas.Iterator.Splits.{YieldsList-from_slice_split}
use Rattle.octets.specs.Basics.{◌and◌}
use Rattle.octets.proofs.Pen.{then}
use Rattle.values.specs.Sorts.{sort_splits}
use Rattle.values.specs.Coded.{sort_said}
use Rattle.jcal_values.specs.Parts.{read_alone}
use Rattle.jcal_values.proofs.ValueLists.{listed_start, listed_end, value-alone, value-wrong, value_on}
use Rattle.jcal_values.proofs.raw.put_tested_list.Goals as goal

pub loop-n-init : goal.loop-n-init
loop-n-init c = (refl, listed_start _ _ _ _)

pub returns-then-not-many : goal.returns-then-not-many
returns-then-not-many c =
    let t = YieldsList-turn (YieldsList-from_enumerate (YieldsList-from_slice_split _ (λ x. c.splits-splits.result and eqb x 44) c.args.raw.now (cc) (cc) ((cc) ∙ c.split.ensures.closure) (λ x b q k. search (rules, tests))) (cc)) c.loop-n.yielded _ c.loop-n.yielded_by _ _ (c.in-Some.n, c.in-Some.value) c.in-Some.is c.next.ensures.steps in
    value-alone (read_alone (sort_said c.args.sort)) c.args.many (sort_splits (sort_said c.args.sort)) c.args.raw.now c.loop-n.invariant.1 (c.in-Some.n, c.in-Some.value.now) (rw c.splits-splits.ensures at t) c.if-n-gt0.true c.if-not-many.true

pub returns-in_err-p : goal.returns-in_err-p
returns-in_err-p c =
    let t = YieldsList-turn (YieldsList-from_enumerate (YieldsList-from_slice_split _ (λ x. c.splits-splits.result and eqb x 44) c.args.raw.now (cc) (cc) ((cc) ∙ c.split.ensures.closure) (λ x b q k. search (rules, tests))) (cc)) c.loop-n.yielded _ c.loop-n.yielded_by _ _ (c.in-Some.n, c.in-Some.value) c.in-Some.is c.next.ensures.steps in
    rw c.from_residual.ensures (value-wrong (read_alone (sort_said c.args.sort)) c.args.many (sort_splits (sort_said c.args.sort)) c.args.raw.now c.loop-n.invariant.1 (c.in-Some.n, c.in-Some.value.now) (rw c.splits-splits.ensures at t) _ c.put-first.ensures c.in_err-p.ensures)

pub loop-n-preserved : goal.loop-n-preserved
loop-n-preserved c =
    let t = YieldsList-turn (YieldsList-from_enumerate (YieldsList-from_slice_split _ (λ x. c.splits-splits.result and eqb x 44) c.args.raw.now (cc) (cc) ((cc) ∙ c.split.ensures.closure) (λ x b q k. search (rules, tests))) (cc)) c.loop-n.yielded _ c.loop-n.yielded_by _ _ (c.in-Some.n, c.in-Some.value) c.in-Some.is c.next.ensures.steps in
    let w = c.in_ok-p.ensures in
    rw (length_push c.loop-n.yielded (c.in-Some.n, c.in-Some.value)) (
      omega (arith, c.loop-n.invariant.0),
      value_on (read_alone (sort_said c.args.sort)) c.args.many (sort_splits (sort_said c.args.sort)) c.args.raw.now c.loop-n.invariant.1 (c.in-Some.n, c.in-Some.value.now) (rw c.splits-splits.ensures at t) w.0 w.1 (then c.put-first.ensures w.2) c.else-n-gt0.either,
    )

pub returns : goal.returns
returns c =
    let t = YieldsList-end (YieldsList-from_enumerate (YieldsList-from_slice_split _ (λ x. c.splits-splits.result and eqb x 44) c.args.raw.now (cc) (cc) ((cc) ∙ c.split.ensures.closure) (λ x b q k. search (rules, tests))) (cc)) c.loop-n.yielded _ c.loop-n.yielded_by _ _ c.in-None.is c.next.ensures.steps in
    listed_end (read_alone (sort_said c.args.sort)) c.args.many (sort_splits (sort_said c.args.sort)) c.args.raw.now c.loop-n.invariant.1 (rw c.splits-splits.ensures at t.1)
