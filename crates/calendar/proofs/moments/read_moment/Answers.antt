-- `calendar::moments::read_moment` meets its contract: the moment of the extended text.
use mathlib.Core.Option.{some}
use mathlib.Core.Path.{sym, ap, ◌∙◌}
use Rattle.octets.specs.Optional.{map?, said}
use Rattle.calendar.specs.Moments.{moment_from, read_moment}
use Rattle.calendar.proofs.NamedMoments.{kind-by-length}
use Rattle.calendar.proofs.moments.read_moment.Goals as goal

pub returns-in_err-t : goal.returns-in_err-t
unfolding read_moment map?
returns-in_err-t c = rw (c.from_residual.ensures, ← c.extended_moment.ensures, c.in_err-t.was)

pub moment_from-requires : goal.moment_from-requires
moment_from-requires c = rw c.as_slice.ensures (kind-by-length _ _ (sym c.extended_moment.ensures ∙ ap said c.in_ok-t.was))

pub returns : goal.returns
unfolding read_moment map?
returns c = rw (← c.extended_moment.ensures, c.in_ok-t.was) (ap some (c.moment_from.ensures ∙ ap moment_from c.as_slice.ensures))
