-- A stop that is moved on, and a run of stops as the code has it: the stops of a series that are ahead, as far as there is room for them.
use Rattle.std.specs.Prelude.{ℕ, ◌+◌, ◌-◌, ◌≡◌, ◌≤◌, ◌<◌, true, List, [], ◌∷◌, ◌++◌, map, length, take, drop, Some, None, Ok, Err}
use Rattle.std.specs.declared.option.Option as code
use Rattle.std.specs.declared.result.Result.{Result}
use Rattle.calendar.specs.Answers.{moved_on}
use Rattle.calendar.specs.declared.moments.Moment.{Moment}
use Rattle.calendar.specs.declared.moments.NotMoved.{NotMoved}
use Rattle.recurrence_set.specs.declared.Series.{Series}
use Rattle.recurrence_set.specs.Lists.{due}
use Rattle.recurrence_set.specs.Meets.{moment_at}
use Rattle.recurrence_set.specs.Searches.{meets_at, Founded}
use Rattle.stop_list.specs.declared.Stop.{Stop}
use Rattle.stop_list.specs.declared.runs.Run.{Run}
use Rattle.stop_list.specs.Stops.{stop}

-- a stop whose moment is moved on is again a stop record, its other fields kept; past 9999 it is none
unfoldable pub stop_at : Stop → Result Moment NotMoved → Result Stop NotMoved
stop_at s (Ok m) = Ok (record { moment = m })
stop_at s (Err why) = Err why

-- h hours later
unfoldable pub stop_on : Stop → ℕ → Result Stop NotMoved
stop_on s h = stop_at s (moved_on s.moment h)

-- the stop at a place of a series
unfoldable pub stop_in : Series → ℕ → Stop
stop_in s n = stop (moment_at s.rule.frequency s.start n)

-- the stops of a series from a place on, not more than so many
unfoldable pub stops_from : Series → ℕ → ℕ → List Stop
stops_from s n a = map (stop_in s) (take n (due (meets_at s) s.places a))

-- the stops of a run
unfoldable pub stops_of : Run → List Stop
stops_of r = stops_from r.series r.room r.from

-- a run whose series is that of a start and a rule that were read, and whose place lies not before the start's
pub record Live (r : Run) : Type 0 where
  pub founded : Founded r.series
  pub from : r.series.place ≤ r.from

-- x is the stop at a place of a series that meets its rule and does not lie before the place a; the next place is b
pub record StopBefore (s : Series) (a b : ℕ) (x : Stop) : Type 0 where
  pub from : a < b
  pub within : b ≤ s.places
  pub meets : meets_at s (b - 1) ≡ true
  pub stop : x ≡ stop_in s (b - 1)

-- r is the run q behind its next stop, or behind its last
abbrev pub Advances : Run → code.Option Stop → Run → Type 0
Advances q None r = Live r × (stops_of q ≡ []) × (stops_of r ≡ [])
Advances q (Some s) r = Live r × (stops_of q ≡ s ∷ stops_of r) × (q.series ≡ r.series) × (q.room ≡ r.room + 1) × StopBefore q.series q.from r.from s

-- so many stops are laid at the front of the list, and the records behind them are as before
pub record StopsLaid (ss old new : List Stop) (n : ℕ) : Type 0 where
  pub count : n ≡ length ss
  pub list : new ≡ ss ++ drop (length ss) old
