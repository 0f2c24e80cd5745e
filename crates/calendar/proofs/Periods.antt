-- The ends of periods: a date-time, or else a duration without minus.
use Prim.Native.Nat.{ℕ}
use Prim.Native.Char.{code}
use mathlib.Core.Path.{◌≡◌, refl, ap, ◌∙◌}
use mathlib.Core.List.{List, [], ◌∷◌}
use mathlib.Core.Option.{Option, none, some}
use lib.Dec.{eqb}
use lib.ListN.{get_or}
use Rattle.octets.specs.Basics.{◌or◌}
use Rattle.octets.specs.Optional.{or?, is_some, when}
use Rattle.octets.specs.Classes.{between, is_upper, is_lower, upper}
use Rattle.octets.specs.Decimal.{minus}
use Rattle.octets.proofs.Optional.{some-when}
use Rattle.calendar.specs.Dates.{date_time_of}
use Rattle.calendar.specs.Durations.{forward_is, period_end_of}
use Rattle.calendar.proofs.Pieces.{uncased}

-- a minus has no case
pub minus-upper : (s : List ℕ) → minus (upper s) ≡ eqb (get_or s 0 0) (code "-")
unfolding minus upper is_lower is_upper between
minus-upper [] = refl
minus-upper (c ∷ s) = uncased (code "-") refl refl c

pub is-some-or : {A : Type 0} (x y : Option A) → is_some (or? x y) ≡ (is_some x or is_some y)
unfolding is_some or?
is-some-or none y = refl
is-some-or (some a) y = refl

pub end_is : (u : List ℕ) → is_some (period_end_of u) ≡ (is_some (date_time_of u) or forward_is u)
unfolding period_end_of
end_is u = is-some-or (date_time_of u) (when (forward_is u) u) ∙ ap (λ b. is_some (date_time_of u) or b) (some-when (forward_is u) u)
