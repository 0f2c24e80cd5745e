-- A recurrence rule as the folding pen writes it: a weekday with its number, and a part.
use Prim.Native.Nat.{ℕ, ◌-◌, ◌<◌}
use Prim.Native.Char.{code}
use mathlib.Core.Path.{◌≡◌, refl}
use mathlib.Core.List.{List, [], ◌∷◌}
use native.Mathlib.Omega.{arith}
use lib.ListN.{length, take, drop}
use Rattle.octets.specs.Classes.{upper}
use Rattle.octets.specs.Decimal.{minus, unsigned, trim, minus_if, integer_text}
use Rattle.octets.proofs.Positions.{from, upto}
use Rattle.calendar.specs.Recurrence.{PartSort, ordinal}
use Rattle.calendar.specs.Walk.{Places, key_at, item_shown, values_shown, part_shown}
use Rattle.content.specs.Folding.{FoldPen, Folded}
use Rattle.content.proofs.Folding.{then, as-folded}

short-shown : (s : List ℕ) → length s < 2 → upper s ≡ item_shown ordinal s
unfolding item_shown integer_text minus_if unsigned minus trim
short-shown [] h = refl
short-shown (a ∷ []) h = refl
short-shown (a ∷ b ∷ s) h = absurd (omega arith)

pub ordinal-short : {p q : FoldPen} (s : List ℕ) → length s < 2 → Folded p (upper s) q → Folded p (item_shown ordinal s) q
ordinal-short s h w = as-folded w (short-shown s h)

pub ordinal-folded : {p q r : FoldPen} (s : List ℕ) (at : ℕ) → at ≡ length s - 2
    → Folded p (integer_text (take (at - 0) (drop 0 s))) q → Folded q (upper (take (length s - at) (drop at s))) r → Folded p (item_shown ordinal s) r
unfolding item_shown
ordinal-folded s at is v w = then (rw (upto s at, is) at v) (rw (from s at, is) at w)

pub part-folded : {p q r t : FoldPen} (s : List ℕ) (x : Places) (sort : PartSort) → sort ≡ (key_at x.key).sort
    → Folded p (upper (take (x.name - 0) (drop 0 s))) q → Folded q (code "=" ∷ []) r → Folded r (values_shown sort (take (x.to - x.from) (drop x.from s))) t
    → Folded p (part_shown x s) t
unfolding part_shown
part-folded s x sort e u v w = then (rw (upto s x.name) at u) (then v (rw e at w))
