-- `json_text::values::value`, `array`, `object` and `element`, which call each other, meet their contracts. The octets left fall; how deep the calls go is bounded by the levels left.
use Prim.Native.Nat.{◌+◌, ◌-◌, ◌*◌, ◌≤◌}
use mathlib.Core.Path.{◌≡◌}
use lib.ListN.{length}
use Rattle.octets.specs.Pen.{pen}
use Rattle.json_text.specs.Reader.{pair, value_within}
use Rattle.json_text.specs.Tape.{ser}
use Rattle.json_text.proofs.Agreements.{Going}
use Rattle.json_text.proofs.Tapes.{ser_list, ser_pair}
use Rattle.json_text.proofs.Elements.{several}
use Rattle.json_text.proofs.values.+array_element_object_value.Given as goal

abbrev pub decreases-array : goal.decreases-array
decreases-array l = 3 * length l.text.now + 2

abbrev pub decreases-object : goal.decreases-object
decreases-object l = 3 * length l.text.now + 2

abbrev pub decreases-value : goal.decreases-value
decreases-value l = 3 * length l.text.now

abbrev pub decreases-element : goal.decreases-element
decreases-element l = 3 * length l.text.now + 1

abbrev pub invariant-array-loop-behind : goal.invariant-array-loop-behind
invariant-array-loop-behind l = (length l.rest ≤ length l.text) × (length l.tape ≡ length l.initial.tape) × Going (ser_list ser) (several 93 (value_within (l.left - 1))) (pen l.initial.tape l.initial.p) l.initial.rest (pen l.tape l.p) l.rest

abbrev pub decreases-array-loop-behind : goal.decreases-array-loop-behind
decreases-array-loop-behind l = length l.rest

abbrev pub invariant-object-loop-next : goal.invariant-object-loop-next
invariant-object-loop-next l = (length l.rest ≤ length l.text) × (length l.tape ≡ length l.initial.tape) × Going (ser_list ser_pair) (several 125 (pair (value_within (l.left - 1)))) (pen l.initial.tape l.initial.p) l.initial.rest (pen l.tape l.p) l.rest

abbrev pub decreases-object-loop-next : goal.decreases-object-loop-next
decreases-object-loop-next l = length l.rest
