-- `jcal_texts::put_upper_string` meets its contract.
use mathlib.Core.Path.{◌≡◌}
use lib.ListN.{length, drop}
use Rattle.octets.proofs.Pen.{Leads}
use Rattle.octets.specs.Classes.{upper}
use Rattle.octets.specs.Pen.{pen}
use Rattle.json_text.specs.Print.{quoted}
use Rattle.jcal_texts.proofs.put_upper_string.Given as goal

abbrev pub invariant-loop-c : goal.invariant-loop-c
invariant-loop-c l = (length l.out ≡ length l.initial.out) × Leads (pen l.initial.out l.initial.p) (quoted (upper l.s)) (pen l.out l.p) (quoted (upper (drop l.c-index l.s)))
