-- `calendar::moments::moment_from` meets its contract: each number stands at its place.
use mathlib.Core.Path.{sym, ◌∙◌}
use Rattle.calendar.specs.Moments.{moment_from}
use Rattle.calendar.proofs.moments.moment_from.Goals as goal

pub returns : goal.returns
unfolding moment_from
returns c = cc (c.year.ensures, c.pair.ensures.0, c.pair-2.ensures.0, c.pair-3.ensures.0, c.pair-4.ensures.0, c.pair-5.ensures.0, c.kind_of.ensures ∙ sym c.requires)
