-- `values::simple::is_geo` meets its contract.
use Prim.Native.Nat.{ℕ}
use mathlib.Core.Path.{sym, ap, ◌∙◌}
use mathlib.Core.List.{List}
use Rattle.octets.specs.Optional.{is_some}
use Rattle.values.proofs.Halves.{found-le, first-half, second-half, geo-none, geo-some}
use Rattle.values.specs.Simple.{float_of}
use Rattle.values.proofs.simple.is_geo.Goals as goal

pub returns-then-not-is_pair : goal.returns-then-not-is_pair
returns-then-not-is_pair c = sym (geo-none _ (sym c.is_pair.ensures ∙ c.if-not-is_pair.true))

pub slice_bounds-is_float-end : goal.slice_bounds-is_float-end
slice_bounds-is_float-end c = found-le _ _ _ c.find-e.ensures

pub returns-then-not-is_float : goal.returns-then-not-is_float
returns-then-not-is_float c = sym (geo-some _ (sym c.is_pair.ensures ∙ c.if-not-is_pair.false) ∙ rw (ap (λ (l : List ℕ). is_some (float_of l)) (sym (first-half _ _ _ c.find-e.ensures)) ∙ sym c.is_float.ensures ∙ c.if-not-is_float.true))

pub returns : goal.returns
returns c = sym (geo-some _ (sym c.is_pair.ensures ∙ c.if-not-is_pair.false) ∙ rw (ap (λ (l : List ℕ). is_some (float_of l)) (sym (first-half _ _ _ c.find-e.ensures)) ∙ sym c.is_float.ensures ∙ c.if-not-is_float.false) (ap (λ (l : List ℕ). is_some (float_of l)) (sym (second-half _ _ _ c.find-e.ensures _ c.past-from.ensures.1)) ∙ sym c.is_float-2.ensures))
