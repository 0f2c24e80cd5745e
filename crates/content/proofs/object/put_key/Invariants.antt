-- `content::object::put_key` meets its contract.
use lib.ListN.{length, drop}
use mathlib.Core.List.{◌++◌}
use mathlib.Core.Path.{◌≡◌}
use Rattle.json_text.specs.Print.{quoted}
use Rattle.octets.proofs.Pen.{Leads}
use Rattle.octets.specs.Pen.{pen}
use Rattle.octets.specs.Classes.{lower}
use Rattle.octets.specs.Basics.{octets}
use Rattle.content.proofs.object.put_key.Given as goal

abbrev pub invariant-loop-c : goal.invariant-loop-c
invariant-loop-c l = (length l.out ≡ length l.initial.out) × Leads (pen l.initial.out l.initial.to) (quoted (lower (drop 0 l.name)) ++ octets ":") (pen l.out l.to) (quoted (lower (drop l.c-index l.name)) ++ octets ":")
