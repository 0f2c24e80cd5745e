-- `ical::lines::write_kind` meets its contract.
use mathlib.Core.Path.{sym}
use Rattle.content.proofs.Folding.{none, then, as-folded}
use Rattle.ical.proofs.LineTexts.{hidden-kind, shown-kind}
use Rattle.ical.proofs.lines.write_kind.Goals as goal

pub returns-then-not-shown : goal.returns-then-not-shown
returns-then-not-shown c = rw c.if-not-shown.true (as-folded none (sym (hidden-kind _)))

pub returns : goal.returns
returns c = rw c.if-not-shown.false (as-folded (then c.begin_param-q.ensures c.fold_upper.ensures) (sym (shown-kind _ c.requires)))
