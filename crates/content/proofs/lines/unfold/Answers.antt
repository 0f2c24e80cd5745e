-- `content::lines::unfold` meets its contract.
use Rattle.content.proofs.LineRuns.{laid-fresh, turn_last, turn-fold, turn_end, turn-none}
use Rattle.octets.proofs.Search.{scan-low, scan-high}
use Rattle.content.specs.Lines.{is_lf, lines_of}
use Rattle.octets.proofs.Pen.{leads-start, leads-on, leads-last, leads-end, then}
use native.Mathlib.Omega.{arith}
use mathlib.Core.Path.{refl, sym, ◌∙◌}
use Rattle.content.proofs.lines.unfold.Goals as goal

pub loop-i-init : goal.loop-i-init
loop-i-init c = (refl, rw (laid-fresh (lines_of c.args.text.now)) leads-start)

pub slice_bounds-put_all-start : goal.slice_bounds-put_all-start
slice_bounds-put_all-start c = scan-low is_lf c.args.text.now c.loop-i.i _ c.line_end-e.ensures

pub slice_bounds-put_all-end : goal.slice_bounds-put_all-end
slice_bounds-put_all-end c = scan-high is_lf c.args.text.now c.loop-i.i _ c.line_end-e.ensures (omega arith)

pub returns-then-e-text : goal.returns-then-e-text
returns-then-e-text c = leads-last c.loop-i.invariant.1 (then c.put_all-a.ensures c.put.ensures) (turn_last c.args.text.now c.loop-i.begun c.loop-i.i c.line_end-e.result c.line_end-e.ensures c.loop-i-test.true c.if-e-text.true)

pub loop-i-preserved-then-blank_at : goal.loop-i-preserved-then-blank_at
loop-i-preserved-then-blank_at c = (omega arith, rw (← c.begun_after-begun.ensures) at (leads-on c.loop-i.invariant.1 c.put_all-a-in-loop-i.ensures (turn-fold c.args.text.now c.loop-i.begun c.loop-i.i c.line_end-e.result c.line_end-e.ensures _ c.without_cr-run.ensures c.if-e-text.false (sym c.blank_at.ensures ∙ c.if-blank_at.true))))

pub loop-i-preserved : goal.loop-i-preserved
loop-i-preserved c = (omega arith, leads-on c.loop-i.invariant.1 (then c.put_all-a-in-loop-i.ensures c.put-at.ensures) (turn_end c.args.text.now c.loop-i.begun c.loop-i.i c.line_end-e.result c.line_end-e.ensures _ c.without_cr-run.ensures c.if-e-text.false (sym c.blank_at.ensures ∙ c.if-blank_at.false)))

pub returns-then-begun : goal.returns-then-begun
returns-then-begun c = leads-last c.loop-i.invariant.1 c.put-then-begun.ensures (turn-none c.args.text.now c.loop-i.begun c.loop-i.i c.loop-i-test.false ∙ rw c.if-begun.true)

pub returns : goal.returns
returns c = leads-end c.loop-i.invariant.1 (turn-none c.args.text.now c.loop-i.begun c.loop-i.i c.loop-i-test.false ∙ rw c.if-begun.false)
