-- What the writers of a recurrence rule write is what is shown: the values of a part, and a part.
use Prim.Native.Nat.{ℕ, ◌-◌, ◌≤◌, ◌<◌}
use Prim.Native.Char.{code}
use mathlib.Core.Path.{◌≡◌}
use mathlib.Core.List.{List, ◌∷◌, ◌++◌}
use borrow.Author.Tests.{lt-ltb, le-ltb}
use lib.ListN.{length, take, drop}
use Rattle.octets.specs.Basics.{octets}
use Rattle.octets.specs.Pen.{Pen, Wrote}
use Rattle.octets.proofs.Pen.{then}
use Rattle.octets.proofs.Positions.{upto}
use Rattle.calendar.specs.Recurrence.{PartSort}
use Rattle.calendar.specs.Walk.{Places, before_first, key_at, first_part}
use Rattle.values.specs.Shown.{item_json_shown, list_shown, items_shown, key_shown, part_json_shown}

-- the values of a part: e is where the first ends
module _ (k : PartSort) (v : List ℕ) (e : ℕ) (is : e ≡ length (before_first (code ",") v)) where
  pub items-plain : length v ≤ e → item_json_shown k v ≡ items_shown k v
  unfolding items_shown
  items-plain h = rw (le-ltb (length (before_first (code ",") v)) (length v) (rw (← is) h))

  pub items-array : e < length v → code "[" ∷ (list_shown (item_json_shown k) (code ",") v ++ octets "]") ≡ items_shown k v
  unfolding items_shown
  items-array h = rw (lt-ltb (length (before_first (code ",") v)) (length v) (rw (← is) h))

pub part-wrote : {p q r : Pen} (s : List ℕ) (x : Places) (kind : PartSort) → x ≡ first_part s → kind ≡ (key_at x.key).sort
    → Wrote p (key_shown (take (x.name - 0) (drop 0 s))) q → Wrote q (items_shown kind (take (x.to - x.from) (drop x.from s))) r → Wrote p (part_json_shown s) r
unfolding part_json_shown
part-wrote s x kind is e u w = rw (← is) (then (rw (upto s x.name) at u) (rw e at w))
