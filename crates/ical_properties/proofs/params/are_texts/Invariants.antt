-- `ical_properties::params::are_texts` meets its contract.
use Prim.Native.Nat.{◌-◌}
use mathlib.Core.Path.{◌≡◌}
use mathlib.Core.List.{map}
use lib.ListN.{length}
use Rattle.octets.specs.Basics.{all}
use Rattle.octets.specs.Classes.{text_octet}
use Rattle.json_text.specs.Tree.{octets_of}
use Rattle.tape.specs.Decode.{list_at}
use Rattle.ical_properties.proofs.params.are_texts.Given as goal

abbrev pub invariant-loop-at : goal.invariant-loop-at
invariant-loop-at l = all (all text_octet) (map octets_of (list_at l.t l.i)) ≡ all (all text_octet) (map octets_of (list_at l.t l.initial.i))

abbrev pub decreases-loop-at : goal.decreases-loop-at
decreases-loop-at l = length l.t - l.i
