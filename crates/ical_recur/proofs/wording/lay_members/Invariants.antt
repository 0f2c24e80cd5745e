-- `ical_recur::wording::lay_members` meets its contract.
use Prim.Native.Nat.{ℕ, ◌-◌}
use mathlib.Core.Path.{◌≡◌}
use mathlib.Core.List.{List}
use lib.ListN.{length}
use Rattle.octets.proofs.Pen.{Leads}
use Rattle.octets.specs.Pen.{pen, Wrote}
use Rattle.json_text.specs.Tape.{tag_end}
use Rattle.tape.specs.Decode.{tag_at, members_at}
use Rattle.values.specs.Recur.{kinds_are}
use Rattle.ical_recur.specs.Wording.{object_text}
use Rattle.ical_recur.proofs.wording.lay_members.Given as goal

abbrev pub invariant-loop-q : goal.invariant-loop-q
invariant-loop-q l = ((tag_at l.t l.from ≡ tag_end) → ⊥) × ((xs : List ℕ) × Wrote (pen l.initial.out l.at) xs (pen l.out l.to)) × (kinds_are (members_at l.t l.from) ≡ kinds_are (members_at l.t l.i)) × Leads (pen l.initial.out l.at) (object_text (members_at l.t l.i)) (pen l.out l.to) (object_text (members_at l.t l.from))

abbrev pub decreases-loop-q : goal.decreases-loop-q
decreases-loop-q l = length l.t - l.from
