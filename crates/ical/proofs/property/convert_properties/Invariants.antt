-- `ical::property::convert_properties` meets its contract.
use Prim.Native.Nat.{ℕ, ◌-◌}
use mathlib.Core.Path.{◌≡◌}
use mathlib.Core.List.{List, map}
use lib.ListN.{length}
use Rattle.octets.specs.Pen.{pen, Wrote}
use Rattle.octets.proofs.Pen.{Leads}
use Rattle.types.specs.Laid.{table_in}
use Rattle.tape.specs.Decode.{list_at}
use Rattle.content.specs.Fold.{text_of}
use Rattle.conversion_theory.specs.Skeleton.{is_property, property_from}
use Rattle.conversion_theory.specs.ToIcal.{checked_all, property_line}
use Rattle.ical.proofs.Arrays.{Walking}
use Rattle.ical.proofs.property.convert_properties.Given as goal

abbrev pub invariant-loop-at : goal.invariant-loop-at
invariant-loop-at l = ((xs : List ℕ) × Wrote (pen l.initial.out l.initial.q) xs (pen l.out l.q)) × (length l.rule ≡ length l.initial.rule) × Walking is_property l.t l.initial.i l.i
    × (checked_all (table_in l.rows) (map property_from (list_at l.t l.i)) ≡ checked_all (table_in l.rows) (map property_from (list_at l.t l.initial.i)))
    × Leads (pen l.initial.out l.initial.q) (text_of (map (property_line (table_in l.rows)) (map property_from (list_at l.t l.initial.i)))) (pen l.out l.q) (text_of (map (property_line (table_in l.rows)) (map property_from (list_at l.t l.i))))

abbrev pub decreases-loop-at : goal.decreases-loop-at
decreases-loop-at l = length l.t - l.i
