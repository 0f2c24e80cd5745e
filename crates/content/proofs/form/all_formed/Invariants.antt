-- `content::form::all_formed` meets its contract.
use lib.ListN.{length, drop}
use mathlib.Core.Path.{◌≡◌}
use Prim.Native.Nat.{◌-◌}
use Rattle.content.specs.Lines.{cut_lines}
use Rattle.content.specs.Form.{formed}
use Rattle.octets.specs.Basics.{all}
use Rattle.content.proofs.form.all_formed.Given as goal

abbrev pub invariant-loop-i : goal.invariant-loop-i
invariant-loop-i l = all formed (cut_lines l.buf) ≡ all formed (cut_lines (drop l.i l.buf))

abbrev pub decreases-loop-i : goal.decreases-loop-i
decreases-loop-i l = length l.buf - l.i
