-- `jcal::components::open_component` meets its contract.
use mathlib.Core.List.{append_assoc}
use mathlib.Core.Path.{ap}
use Rattle.octets.proofs.Pen.{then, as-text}
use Rattle.octets.specs.Basics.{octets}
use Rattle.json_text.specs.Print.{print_string}
use Rattle.jcal.specs.Events.{name_from}
use Rattle.jcal.specs.Components.{name_text}
use Rattle.jcal.proofs.OpenComponents.{name-part}
use Rattle.jcal.proofs.components.open_component.Goals as goal

pub returns : goal.returns
unfolding name_text
returns c = as-text (then (then c.put-a.ensures (as-text c.put_name-b.ensures (ap print_string (name-part c.args.buf.now c.args.name c.args.e c.requires.ends)))) c.put_all.ensures) (append_assoc (octets "[") (print_string (name_from c.args.buf.now c.args.name)) (octets ",["))
