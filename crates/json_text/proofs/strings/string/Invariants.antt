-- `json_text::strings::string` meets its contract.
use mathlib.Core.Path.{◌≡◌}
use lib.ListN.{length}
use Rattle.octets.specs.Pen.{pen}
use Rattle.json_text.specs.Strings.{string as string_of}
use Rattle.json_text.specs.Tape.{ser_text}
use Rattle.json_text.proofs.Agreements.{Going}
use Rattle.json_text.proofs.strings.string.Given as goal

abbrev pub invariant-loop-ended : goal.invariant-loop-ended
invariant-loop-ended l = (length l.tape ≡ length l.initial.tape) × Going ser_text string_of (pen l.initial.tape l.initial.p) l.text (pen l.tape l.p) l.left

abbrev pub decreases-loop-ended : goal.decreases-loop-ended
decreases-loop-ended l = length l.left
