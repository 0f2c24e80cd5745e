-- `jcal_values::forms::put_period` meets its contract.
use Prim.Native.Nat.{ℕ}
use mathlib.Core.Path.{ap}
use mathlib.Core.List.{List}
use Rattle.octets.specs.Classes.{upper}
use Rattle.octets.proofs.Pen.{as-text}
use Rattle.calendar.specs.Dates.{date_time_of}
use Rattle.values.specs.Shown.{string_shown, end_shown, period_shown}
use Rattle.values.proofs.Halves.{found-le, first-half, second-half, arrayed}
use Rattle.jcal_values.proofs.forms.put_period.Goals as goal

pub slice_bounds-put_form-end : goal.slice_bounds-put_form-end
slice_bounds-put_form-end c = found-le _ _ _ c.find-e.ensures

pub returns : goal.returns
unfolding period_shown
returns c = let find = c.find-e in
    arrayed _ _ c.put-first.ensures
    (as-text c.put_form-comma.ensures (ap (λ (l : List ℕ). string_shown (date_time_of (upper l))) (first-half _ _ _ find.ensures)))
    c.put-second.ensures
    (as-text c.put_end-close.ensures (ap end_shown (second-half _ _ _ find.ensures _ c.past-from.ensures.1)))
    c.put.ensures
