-- `values::simple::is_period` meets its contract.
use Prim.Native.Nat.{ℕ}
use mathlib.Core.Path.{sym, ap, ◌∙◌}
use mathlib.Core.List.{List}
use Rattle.octets.specs.Optional.{is_some}
use Rattle.octets.specs.Classes.{upper}
use Rattle.calendar.specs.Durations.{period_end_of}
use Rattle.calendar.specs.Dates.{date_time_of}
use Rattle.values.proofs.Halves.{found-le, first-half, second-half, period-none, period-some}
use Rattle.values.proofs.simple.is_period.Goals as goal

pub returns-then-not-is_pair : goal.returns-then-not-is_pair
returns-then-not-is_pair c = sym (period-none _ (sym c.is_pair.ensures ∙ c.if-not-is_pair.true))

pub slice_bounds-is_basic-end : goal.slice_bounds-is_basic-end
slice_bounds-is_basic-end c = found-le _ _ _ c.find-e.ensures

pub returns-then-not-is_basic : goal.returns-then-not-is_basic
returns-then-not-is_basic c = sym (period-some _ (sym c.is_pair.ensures ∙ c.if-not-is_pair.false) ∙ rw (ap (λ (l : List ℕ). is_some (date_time_of (upper l))) (sym (first-half _ _ _ c.find-e.ensures)) ∙ sym c.is_basic.ensures ∙ c.if-not-is_basic.true))

pub returns : goal.returns
returns c = sym (period-some _ (sym c.is_pair.ensures ∙ c.if-not-is_pair.false) ∙ rw (ap (λ (l : List ℕ). is_some (date_time_of (upper l))) (sym (first-half _ _ _ c.find-e.ensures)) ∙ sym c.is_basic.ensures ∙ c.if-not-is_basic.false) (ap (λ (l : List ℕ). is_some (period_end_of (upper l))) (sym (second-half _ _ _ c.find-e.ensures _ c.past-from.ensures.1)) ∙ sym c.is_period_end.ensures))
