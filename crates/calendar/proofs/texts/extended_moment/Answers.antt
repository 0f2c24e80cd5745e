-- `calendar::texts::extended_moment` meets its contract: the date's text, or else the date-time's.
use mathlib.Core.Path.{ap, ◌∙◌}
use Rattle.octets.specs.Optional.{or?}
use Rattle.octets.specs.Classes.{upper}
use Rattle.calendar.specs.Dates.{moment_of, date_time_of}
use Rattle.calendar.proofs.Options.{or-else-said}
use Rattle.std.proofs.Common.{rules}
use Rattle.calendar.proofs.texts.extended_moment.Goals as goal

pub returns : goal.returns
unfolding moment_of
returns c =
    let b = date_time_of (upper c.args.s.now) in
    or-else-said c.extended.result c.or_else.result b c.or_else.ensures (λ e. search (rules, e)) ∙ ap (λ d. or? d b) c.extended.ensures
