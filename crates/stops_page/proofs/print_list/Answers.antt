-- `stops_page::print_list` meets its contract: what the plan tells, from the first stop on and with no more room than for the last.
use mathlib.Core.Path.{refl, ap, ◌∙◌}
use lib.ListN.{length}
use Rattle.octets.proofs.Pen.{then, as-text}
use Rattle.stops_page.proofs.Answers.{shows-stops, shows-refusal}
use Rattle.stops_page.proofs.Counts.{needed-room}
use Rattle.stops_page.proofs.print_list.Goals as goal

pub at_first-run-requires : goal.at_first-run-requires
at_first-run-requires c = c.in-Ok.ensures.live _ refl

pub count_of-n-requires : goal.count_of-n-requires
count_of-n-requires c = c.at_first-run.ensures.0

pub put_stops-requires : goal.put_stops-requires
put_stops-requires c = record { founded = c.at_first-run.ensures.0.founded; from = c.at_first-run.ensures.0.from }

pub returns-in-Ok : goal.returns-in-Ok
returns-in-Ok c =
    let s = needed-room c.at_first-run.result c.count_of-n.result c.count_of-n.ensures ∙ c.at_first-run.ensures.1 in
    as-text (then c.put_head-at.ensures c.put_stops.ensures) (rw s (shows-stops _ _ _ _ c.in-Ok.ensures _ (c.count_of-n.ensures ∙ ap length c.at_first-run.ensures.1)))

pub returns-in-Err : goal.returns-in-Err
returns-in-Err c = as-text c.put_head.ensures (rw c.number.ensures (shows-refusal _ _ _ _ c.in-Err.ensures))
