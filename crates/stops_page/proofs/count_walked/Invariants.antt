-- `stops_page::count_walked` meets its contract: what is counted and what is ahead stay the same.
use Prim.Native.Nat.{◌+◌, ◌-◌, ◌≤◌}
use mathlib.Core.Path.{◌≡◌}
use Rattle.stops_page.proofs.Counts.{count_from}
use Rattle.stops_page.proofs.count_walked.Given as goal

abbrev pub invariant-loop-n : goal.invariant-loop-n
invariant-loop-n l = (l.run.series.place ≤ l.at) × (l.n + count_from l.run.series (l.run.room - l.n) l.at ≡ count_from l.run.series l.run.room l.run.from)
