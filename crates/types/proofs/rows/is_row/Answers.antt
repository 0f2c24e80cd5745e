-- `types::rows::is_row` meets its contract.
use mathlib.Core.Path.{sym, ap, ◌∙◌}
use Rattle.octets.specs.Optional.{is_some}
use Rattle.types.proofs.Frames.{kind, no-keyword, too_short, too_long, not-kind, not-name, some-name}
use Rattle.types.proofs.rows.is_row.Goals as goal

pub returns-then-frame-lt3 : goal.returns-then-frame-lt3
returns-then-frame-lt3 c = unfold is_some in sym (ap is_some (too_short _ c.if-frame-lt3.true))

pub returns-then-frame-gt-MOST_FRAME : goal.returns-then-frame-gt-MOST_FRAME
returns-then-frame-gt-MOST_FRAME c = unfold is_some in sym (ap is_some (too_long _ c.if-frame-gt-MOST_FRAME.true))

pub returns-then-not-is_kind : goal.returns-then-not-is_kind
unfolding kind
returns-then-not-is_kind c = sym (not-kind _ c.if-frame-lt3.false c.if-frame-gt-MOST_FRAME.false (sym c.is_kind.ensures ∙ c.if-not-is_kind.true))

pub returns-then-not-is_row_name : goal.returns-then-not-is_row_name
unfolding kind
returns-then-not-is_row_name c = sym (not-name _ c.if-frame-lt3.false c.if-frame-gt-MOST_FRAME.false (sym c.is_kind.ensures ∙ c.if-not-is_kind.false) (sym c.is_row_name.ensures ∙ c.if-not-is_row_name.true))

pub returns-then-same : goal.returns-then-same
unfolding kind no-keyword
returns-then-same c = sym (some-name _ c.if-frame-lt3.false c.if-frame-gt-MOST_FRAME.false (sym c.is_kind.ensures ∙ c.if-not-is_kind.false) (sym c.is_row_name.ensures ∙ c.if-not-is_row_name.false)
    ∙ rw (sym c.same.ensures ∙ c.if-same.true))

pub returns : goal.returns
unfolding kind no-keyword
returns c = sym (some-name _ c.if-frame-lt3.false c.if-frame-gt-MOST_FRAME.false (sym c.is_kind.ensures ∙ c.if-not-is_kind.false) (sym c.is_row_name.ensures ∙ c.if-not-is_row_name.false)
    ∙ rw (sym c.same.ensures ∙ c.if-same.false, sym c.same-2.ensures))
