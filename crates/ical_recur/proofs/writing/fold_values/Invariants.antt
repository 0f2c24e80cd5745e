-- `ical_recur::writing::fold_values` meets its contract: what is written is followed by the values ahead.
use mathlib.Core.Path.{◌≡◌}
use mathlib.Core.List.{map}
use lib.ListN.{length, drop}
use Rattle.octets.specs.Pieces.{split}
use Rattle.content.specs.Folding.{folding}
use Rattle.content.proofs.Folding.{Leads}
use Rattle.calendar.specs.Walk.{part_sort_said, item_shown, values_shown}
use Rattle.ical_recur.proofs.Splits.{left}
use Rattle.ical_recur.proofs.writing.fold_values.Given as goal

abbrev pub invariant-loop-n : goal.invariant-loop-n
invariant-loop-n l = (length l.out ≡ length l.initial.out) × Leads (folding l.initial.out l.initial.q) (values_shown (part_sort_said l.sort) l.v) (folding l.out l.q) (left 44 (length l.yielded) (drop (length l.yielded) (map (item_shown (part_sort_said l.sort)) (split 44 l.v))))
