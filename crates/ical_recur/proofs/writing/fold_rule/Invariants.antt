-- `ical_recur::writing::fold_rule` meets its contract: what is written is followed by the parts ahead.
use Prim.Native.Nat.{◌-◌, ◌≤◌}
use mathlib.Core.Path.{◌≡◌}
use lib.ListN.{length, drop}
use Rattle.content.specs.Folding.{folding}
use Rattle.content.proofs.Folding.{Leads}
use Rattle.calendar.specs.Walk.{rule_shown}
use Rattle.ical_recur.proofs.writing.fold_rule.Given as goal

abbrev pub invariant-loop-out : goal.invariant-loop-out
invariant-loop-out l = (l.from ≤ length l.s) × (length l.out ≡ length l.initial.out) × Leads (folding l.initial.out l.initial.q) (rule_shown l.s) (folding l.out l.q) (rule_shown (drop l.from l.s))

abbrev pub decreases-loop-out : goal.decreases-loop-out
decreases-loop-out l = length l.s - l.from
