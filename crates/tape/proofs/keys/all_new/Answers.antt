-- `tape::keys::all_new` meets its contract.
use Prim.Native.Nat.{◌-◌, ◌<◌}
use mathlib.Core.Path.{refl, sym, ◌∙◌}
use native.Mathlib.Omega.{arith}
use lib.ListN.{length}
use Rattle.tape.proofs.Scans.{Keyed, member-on}
use Rattle.tape.proofs.Tables.{telling-start, telling-end, telling-twice, telling-seen, telling-full, telling-stored}
use Rattle.tape.proofs.keys.all_new.Tie as tie
use Rattle.tape.proofs.keys.all_new.Lts as lts
use Rattle.tape.proofs.keys.all_new.Reads as reads
use Rattle.tape.proofs.keys.all_new.Goals as goal

-- the member at i
keyed :
    (c : lts.After-behind tie.the-claims reads.Pre reads.Post goal.the-invariant-loop-at goal.the-decreases-loop-at) →
    Keyed c.args.t.now c.loop-at.i c.text_at-k.result c.behind-e.result
keyed c = record { some = λ z. c.if-tag.false (c.tag.ensures ∙ z); key = c.text_at-k.ensures; next = c.behind-e.ensures }

onward : (c : lts.After-behind tie.the-claims reads.Pre reads.Post goal.the-invariant-loop-at goal.the-decreases-loop-at) → length c.args.t.now - c.behind-e.result < length c.args.t.now - c.loop-at.i
onward c = omega (arith, member-on (keyed c), c.behind-e.ensures.high)

pub loop-at-init : goal.loop-at-init
loop-at-init c = (refl, telling-start c.requires)

pub returns-then-tag : goal.returns-then-tag
returns-then-tag c = sym (telling-end c.loop-at.invariant.1 (sym c.tag.ensures ∙ c.if-tag.true))

pub returns-in-Seen : goal.returns-in-Seen
returns-in-Seen c = sym (telling-seen c.loop-at.invariant.1 (keyed c.before.before.before.before.before.before) (rw c.in-Seen.is at c.enter.ensures))

pub loop-at-smaller-in-Stored : goal.loop-at-smaller-in-Stored
loop-at-smaller-in-Stored c = onward c.before.before.before.before.before.before

pub loop-at-preserved-in-Stored : goal.loop-at-preserved-in-Stored
loop-at-preserved-in-Stored c = (omega arith, telling-stored c.loop-at.invariant.1 (keyed c.before.before.before.before.before.before) (rw c.in-Stored.is at c.enter.ensures))

pub returns-then-has_key : goal.returns-then-has_key
returns-then-has_key c = sym (telling-twice c.loop-at.invariant.1 (keyed c.before.before.before.before.before.before.before.before.before.before) (sym c.has_key.ensures ∙ c.if-has_key.true))

pub loop-at-smaller : goal.loop-at-smaller
loop-at-smaller c = onward c.before.before.before.before.before.before.before.before.before.before

pub loop-at-preserved : goal.loop-at-preserved
loop-at-preserved c = (omega arith, telling-full c.loop-at.invariant.1 (keyed c.before.before.before.before.before.before.before.before.before.before) (rw c.in-Full.is at c.enter.ensures) (sym c.has_key.ensures ∙ c.if-has_key.false))
