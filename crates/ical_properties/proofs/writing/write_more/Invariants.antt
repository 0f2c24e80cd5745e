-- `ical_properties::writing::write_more` meets its contract.
use Prim.Native.Nat.{◌-◌}
use mathlib.Core.Path.{◌≡◌}
use mathlib.Core.List.{map}
use lib.ListN.{length}
use Rattle.json_text.specs.Tree.{octets_of}
use Rattle.tape.specs.Decode.{list_at}
use Rattle.content.specs.Write.{more_values}
use Rattle.content.specs.Folding.{folding}
use Rattle.content.proofs.Folding.{Leads}
use Rattle.ical_properties.proofs.writing.write_more.Given as goal

abbrev pub invariant-loop-q : goal.invariant-loop-q
invariant-loop-q l = (length l.out ≡ length l.initial.out) × Leads (folding l.initial.out l.initial.q) (more_values (map octets_of (list_at l.t l.at))) (folding l.out l.q) (more_values (map octets_of (list_at l.t l.i)))

abbrev pub decreases-loop-q : goal.decreases-loop-q
decreases-loop-q l = length l.t - l.i
