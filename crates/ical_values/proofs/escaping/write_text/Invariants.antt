-- `ical_values::escaping::write_text` meets its contract.
use Prim.Native.Nat.{ℕ, ◌≤◌, ◌-◌}
use mathlib.Core.Path.{◌≡◌}
use mathlib.Core.List.{List}
use lib.ListN.{length, drop}
use Rattle.values.specs.Texts.{text_is, text_text}
use Rattle.content.specs.Folding.{folding, Folded}
use Rattle.content.proofs.Folding.{Leads}
use Rattle.ical_values.proofs.escaping.write_text.Given as goal

abbrev pub invariant-loop-q : goal.invariant-loop-q
invariant-loop-q l = (l.i ≤ length l.s) × ((xs : List ℕ) × Folded (folding l.initial.out l.initial.q) xs (folding l.out l.q)) × (text_is (drop l.i l.s) ≡ text_is l.s) × Leads (folding l.initial.out l.initial.q) (text_text l.s) (folding l.out l.q) (text_text (drop l.i l.s))

abbrev pub decreases-loop-q : goal.decreases-loop-q
decreases-loop-q l = length l.s - l.i
