-- `content::form::is_formed` meets its contract.
use native.Mathlib.Omega.{arith}
use mathlib.Core.Path.{sym, ap, ◌∙◌}
use Rattle.octets.proofs.Positions.{from}
use Rattle.content.specs.LinePlaces.{unquoted, place_after, is_value}
use Rattle.content.proofs.PlaceSpans.{off_name, nonzero, line-none, line-comma, line-tail}
use Rattle.octets.proofs.Search.{scan-high}
use Rattle.content.proofs.form.is_formed.Goals as goal

pub returns-then-n-eq0 : goal.returns-then-n-eq0
returns-then-n-eq0 c = sym (line-none c.args.line.now c.run_end-n.result c.run_end-n.ensures c.if-n-eq0.true)

pub returns-then-peek-eq44 : goal.returns-then-peek-eq44
returns-then-peek-eq44 c = sym (line-comma c.args.line.now c.run_end-n.result c.run_end-n.ensures (nonzero _ c.if-n-eq0.false) (sym c.peek.ensures ∙ c.if-peek-eq44.true))

pub slice_bounds-tail_formed-count : goal.slice_bounds-tail_formed-count
slice_bounds-tail_formed-count c = scan-high off_name c.args.line.now 0 c.run_end-n.result c.run_end-n.ensures (omega arith)

pub slice_bounds-tail_formed-start : goal.slice_bounds-tail_formed-start
slice_bounds-tail_formed-start c = scan-high off_name c.args.line.now 0 c.run_end-n.result c.run_end-n.ensures (omega arith)

pub returns : goal.returns
returns c = c.tail_formed.ensures
    ∙ ap (λ r. is_value (place_after unquoted r)) (from c.args.line.now c.run_end-n.result)
    ∙ sym (line-tail c.args.line.now c.run_end-n.result c.run_end-n.ensures (nonzero _ c.if-n-eq0.false) (λ e. c.if-peek-eq44.false (c.peek.ensures ∙ e)))
