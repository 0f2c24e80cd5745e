-- `stop_list::fill` lists a run of stops: those that are stored, and those that are ahead.
use Rattle.stop_list.specs.Runs.{stops_of, Live}
use Rattle.stop_list.proofs.Filling.{Filling}
use Rattle.stop_list.proofs.fill.Given as goal

abbrev pub invariant-loop-i : goal.invariant-loop-i
invariant-loop-i l = Live l.run × Filling (stops_of l.fn.run) (stops_of l.run) l.fn.list l.list l.i
