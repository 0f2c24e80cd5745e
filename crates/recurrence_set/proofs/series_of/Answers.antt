-- `recurrence_set::series_of` meets its contract.
use Rattle.recurrence_set.specs.Searches.{series_of}
use Rattle.recurrence_set.proofs.series_of.Goals as goal

pub returns : goal.returns
unfolding series_of
returns c = λ h e. rw (c.place_of.ensures h, c.limit_of.ensures e)
