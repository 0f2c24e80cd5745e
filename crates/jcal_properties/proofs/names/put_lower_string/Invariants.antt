-- What is left to write is that of the name from here on.
use mathlib.Core.Path.{◌≡◌}
use lib.ListN.{length, drop}
use Rattle.octets.proofs.Pen.{Leads}
use Rattle.octets.specs.Classes.{lower}
use Rattle.octets.specs.Pen.{pen}
use Rattle.json_text.specs.Print.{quoted}
use Rattle.jcal_properties.proofs.names.put_lower_string.Given as goal

abbrev pub invariant-loop-c : goal.invariant-loop-c
invariant-loop-c l = (length l.out ≡ length l.initial.out) × Leads (pen l.initial.out l.initial.to) (quoted (lower l.name)) (pen l.out l.to) (quoted (lower (drop l.c-index l.name)))
