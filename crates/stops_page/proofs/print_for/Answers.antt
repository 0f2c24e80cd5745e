-- `stops_page::print_for` meets its contract: the last line's number decides.
use mathlib.Core.Path.{sym, ap, ◌∙◌}
use native.Mathlib.Omega.{arith}
use lib.ListN.{length-take}
use Rattle.stop_list.specs.declared.Stop.{Stop}
use Rattle.octets.proofs.Pen.{as-text}
use Rattle.stops_page.proofs.Answers.{most-bound, no-most, list-shown}
use Rattle.octets.specs.Optional.{said}
use Rattle.stops_page.proofs.print_for.Goals as goal

pub returns-in_default : goal.returns-in_default
returns-in_default c = as-text c.put_bad.ensures (no-most _ _ _ (ap said (sym c.in_default.is) ∙ c.most_of.ensures))

pub slice_bounds-list-end : goal.slice_bounds-list-end
slice_bounds-list-end c = let h = most-bound _ _ (ap said (sym c.in-Some.is) ∙ c.most_of.ensures) in omega arith

pub returns : goal.returns
returns c = as-text c.put_page.ensures (list-shown _ _ _ _ _ (ap said (sym c.in-Some.is) ∙ c.most_of.ensures)
    (let h = most-bound _ _ (ap said (sym c.in-Some.is) ∙ c.most_of.ensures) in omega (arith, length-take {A = Stop})))

pub slice_bounds-put_page-end : goal.slice_bounds-put_page-end
slice_bounds-put_page-end c = let h = most-bound _ _ (ap said (sym c.in-Some.is) ∙ c.most_of.ensures) in omega (arith, length-take {A = Stop})
