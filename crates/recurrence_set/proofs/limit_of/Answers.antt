-- `recurrence_set::limit_of` meets its contract.
use native.Mathlib.Omega.{arith}
use Rattle.recurrence_set.proofs.Places.{until-limit, other-limit}
use Rattle.recurrence_set.proofs.limit_of.Goals as goal

pub returns-in-Until : goal.returns-in-Until
returns-in-Until c = λ h. until-limit _ _ _ _ c.places_of-all.ensures _ _ c.in-Until.is c.places_until.ensures _ (omega arith) h

pub returns-in-Count : goal.returns-in-Count
returns-in-Count c = λ h. other-limit _ _ _ _ c.places_of-all.ensures c.in-Count.is
