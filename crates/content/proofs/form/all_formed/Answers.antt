-- `content::form::all_formed` meets its contract.
use native.Mathlib.Omega.{arith}
use mathlib.Core.Path.{refl, sym, ◌∙◌}
use Rattle.content.specs.Lines.{is_lf}
use Rattle.content.specs.Form.{formed}
use Rattle.content.proofs.Buffer.{all_none, all-on, all-off}
use Rattle.octets.proofs.Search.{scan-high}
use Rattle.content.proofs.form.all_formed.Goals as goal

pub loop-i-init : goal.loop-i-init
loop-i-init c = refl

pub slice_bounds-is_formed-end : goal.slice_bounds-is_formed-end
slice_bounds-is_formed-end c = scan-high is_lf c.args.buf.now c.loop-i.i _ c.line_end-e.ensures (omega arith)

pub returns-then-not-is_formed : goal.returns-then-not-is_formed
returns-then-not-is_formed c = sym (c.loop-i.invariant ∙ all-off formed c.args.buf.now c.loop-i.i c.line_end-e.result c.line_end-e.ensures c.loop-i-test.true (sym c.is_formed.ensures ∙ c.if-not-is_formed.true))

pub overflow_add-i : goal.overflow_add-i
overflow_add-i c = omega (arith, scan-high is_lf c.args.buf.now c.loop-i.i _ c.line_end-e.ensures (omega arith))

pub loop-i-smaller : goal.loop-i-smaller
loop-i-smaller c = omega (arith, scan-high is_lf c.args.buf.now c.loop-i.i _ c.line_end-e.ensures (omega arith))

pub loop-i-preserved : goal.loop-i-preserved
loop-i-preserved c = c.loop-i.invariant ∙ all-on formed c.args.buf.now c.loop-i.i c.line_end-e.result c.line_end-e.ensures c.loop-i-test.true (sym c.is_formed.ensures ∙ c.if-not-is_formed.false)

pub returns : goal.returns
returns c = sym (c.loop-i.invariant ∙ all_none formed c.args.buf.now c.loop-i.i c.loop-i-test.false)
