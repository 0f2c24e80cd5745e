-- `ical_skeleton::components::check_component` meets its contract; the levels left fall. The loop's invariant: the sub-components so far pass.
use Prim.Native.Nat.{◌-◌}
use lib.ListN.{length}
use Rattle.ical_skeleton.proofs.Depths.{Nesting}
use Rattle.ical_skeleton.proofs.components.+check_component.Given as goal

abbrev pub decreases-check_component : goal.decreases-check_component
decreases-check_component l = l.left

abbrev pub invariant-loop-e : goal.invariant-loop-e
invariant-loop-e l = Nesting (l.left - 1) l.t l.initial.i l.i l.levels

abbrev pub decreases-loop-e : goal.decreases-loop-e
decreases-loop-e l = length l.t - l.i
