-- `ical::components::convert_component` meets its contract; the levels left fall.
use Prim.Native.Nat.{ℕ, ◌-◌}
use mathlib.Core.Path.{◌≡◌}
use mathlib.Core.List.{List}
use lib.ListN.{length}
use Rattle.octets.specs.Pen.{pen, Wrote}
use Rattle.octets.proofs.Pen.{Leads}
use Rattle.types.specs.Laid.{table_in}
use Rattle.tape.specs.Decode.{list_at}
use Rattle.content.specs.Fold.{text_of}
use Rattle.conversion_theory.specs.Skeleton.{is_component}
use Rattle.conversion_theory.specs.ToIcal.{checked_all}
use Rattle.ical.proofs.Arrays.{Walking}
use Rattle.ical.proofs.ComponentParts.{sub_properties}
use Rattle.ical.proofs.LineTexts.{sub_lines}
use Rattle.ical.proofs.components.+convert_component.Given as goal

abbrev pub decreases-convert_component : goal.decreases-convert_component
decreases-convert_component l = l.left

abbrev pub invariant-loop-e : goal.invariant-loop-e
invariant-loop-e l = ((xs : List ℕ) × Wrote (pen l.initial.out l.initial.q) xs (pen l.out l.q)) × (length l.rule ≡ length l.initial.rule) × Walking (is_component (l.left - 1)) l.t l.initial.i l.i
    × (checked_all (table_in l.rows) (sub_properties (l.left - 1) (list_at l.t l.i)) ≡ checked_all (table_in l.rows) (sub_properties (l.left - 1) (list_at l.t l.initial.i)))
    × Leads (pen l.initial.out l.initial.q) (text_of (sub_lines (table_in l.rows) (l.left - 1) (list_at l.t l.initial.i))) (pen l.out l.q) (text_of (sub_lines (table_in l.rows) (l.left - 1) (list_at l.t l.i)))

abbrev pub decreases-loop-e : goal.decreases-loop-e
decreases-loop-e l = length l.t - l.i
