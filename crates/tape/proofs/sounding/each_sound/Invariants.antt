-- `tape::sounding::each_sound` meets its contract. The loop's invariant: the scan from here on tells whether the whole tape is sound.
use Prim.Native.Nat.{◌-◌}
use mathlib.Core.Path.{◌≡◌}
use lib.ListN.{length}
use Rattle.tape.specs.Scan.{sound_from, sound_tape}
use Rattle.tape.proofs.sounding.each_sound.Given as goal

abbrev pub invariant-loop-i : goal.invariant-loop-i
invariant-loop-i l = sound_from l.t l.i ≡ sound_tape l.t

abbrev pub decreases-loop-i : goal.decreases-loop-i
decreases-loop-i l = length l.t - l.i
