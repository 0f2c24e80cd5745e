-- `ical_recur::wording::lay_items` meets its contract.
use Prim.Native.Nat.{ℕ, ◌-◌}
use mathlib.Core.Path.{◌≡◌}
use mathlib.Core.List.{List}
use lib.ListN.{length}
use Rattle.octets.proofs.Pen.{Leads}
use Rattle.octets.specs.Pen.{pen, Wrote}
use Rattle.calendar.specs.Walk.{part_sort_said}
use Rattle.json_text.specs.Tape.{tag_end}
use Rattle.tape.proofs.Walks.{Along}
use Rattle.tape.specs.Decode.{tag_at, items_at}
use Rattle.values.specs.Recur.{all_items, some_items}
use Rattle.ical_recur.specs.Kinds.{item_is}
use Rattle.ical_recur.specs.Wording.{items_text}
use Rattle.ical_recur.proofs.wording.lay_items.Given as goal

abbrev pub invariant-loop-q : goal.invariant-loop-q
invariant-loop-q l = ((tag_at l.t l.from ≡ tag_end) → ⊥) × ((xs : List ℕ) × Wrote (pen l.initial.out l.at) xs (pen l.out l.to)) × (all_items (item_is (part_sort_said l.sort)) (items_at l.t l.from) ≡ some_items (item_is (part_sort_said l.sort)) (items_at l.t l.i)) × Leads (pen l.initial.out l.at) (items_text (part_sort_said l.sort) (items_at l.t l.i)) (pen l.out l.to) (items_text (part_sort_said l.sort) (items_at l.t l.from)) × Along l.t l.i l.from

abbrev pub decreases-loop-q : goal.decreases-loop-q
decreases-loop-q l = length l.t - l.from
