-- `tape::sounding::each_sound` meets its contract. The loop's invariant: the scan from here on tells whether the whole tape is sound.
use mathlib.Core.Path.{sym, ◌∙◌}
use Rattle.tape.proofs.Scans.{scan-start, scan-past}
use Rattle.tape.proofs.sounding.each_sound.Goals as goal

pub loop-i-init : goal.loop-i-init
loop-i-init c = scan-start _

pub returns : goal.returns
returns c = sym (scan-past _ _ c.loop-i-test.false) ∙ c.loop-i.invariant
