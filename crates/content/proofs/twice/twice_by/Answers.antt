-- `content::twice::twice_by` meets its contract.
use mathlib.Core.Path.{refl, sym, ◌∙◌}
use native.Mathlib.Omega.{arith}
use Rattle.content.proofs.Tables.{walk_start, walk_end, walk-twice, walk-seen, walk-full, walk-stored}
use Rattle.content.proofs.twice.twice_by.Goals as goal

pub loop-e-init : goal.loop-e-init
loop-e-init c = (refl, walk_start _ _ _ c.requires c.next_bare-e.ensures)

pub returns-in-Seen : goal.returns-in-Seen
returns-in-Seen c = sym (walk-seen c.loop-e.invariant.1 c.loop-e-test.true c.param_at-p.ensures (rw c.in-Seen.is at c.enter.ensures))

pub loop-e-preserved-in-Stored : goal.loop-e-preserved-in-Stored
loop-e-preserved-in-Stored c = (omega arith, walk-stored c.loop-e.invariant.1 c.loop-e-test.true c.param_at-p.ensures (rw c.in-Stored.is at c.enter.ensures))

pub returns-then-has_name : goal.returns-then-has_name
returns-then-has_name c = sym (walk-twice c.loop-e.invariant.1 c.loop-e-test.true c.param_at-p.ensures (sym c.has_name.ensures ∙ c.if-has_name.true))

pub loop-e-preserved : goal.loop-e-preserved
loop-e-preserved c = (omega arith, walk-full c.loop-e.invariant.1 c.loop-e-test.true c.param_at-p.ensures (rw c.in-Full.is at c.enter.ensures) (sym c.has_name.ensures ∙ c.if-has_name.false))

pub returns : goal.returns
returns c = sym (walk_end c.loop-e.invariant.1 c.loop-e-test.false)
