-- What the tests of the skeleton promise of their answers.
use Rattle.std.specs.Prelude.{ℕ, suc, ◌+◌, ◌≤◌, ◌≡◌, Bool, true, false, List, length, Option, Some, None}
use Rattle.octets.specs.Optional.{holds}
use Rattle.octets.specs.Classes.{is_lower_name}
use Rattle.octets.specs.Limits.{most_open}
use Rattle.json_text.specs.Tree.{string?, elements, element}
use Rattle.json_text.specs.Tape.{tag_array}
use Rattle.tape.specs.Decode.{pop, view, tag_at, value_at, list_at}
use Rattle.tape.specs.Promise.{Next}
use Rattle.conversion_theory.specs.Tree.{levels}
use Rattle.conversion_theory.specs.Skeleton.{is_list_of, is_property, is_component, is_calendar, component_from}

-- the answer tells b, and where the value at i ends if b holds
abbrev pub Checks : List ℕ → ℕ → Bool → Option ℕ → Type 0
Checks t i b (Some e) = (b ≡ true) × Next t i e
Checks t i b None = b ≡ false

-- a name and properties stand in the array at i, and behind them from p on all that is left of it
pub record Head (t : List ℕ) (i p : ℕ) : Type 0 where
  pub array : tag_at t i ≡ tag_array
  pub name : holds is_lower_name (string? (element 0 (value_at t i))) ≡ true
  pub properties : is_list_of is_property (element 1 (value_at t i)) ≡ true
  pub third : element 2 (value_at t i) ≡ value_at t p
  pub count : length (elements (value_at t i)) ≡ suc (suc (length (list_at t p)))
  pub inside : pop (view t p) ≡ pop (view t (i + 1))
  pub low : i + 1 ≤ p
  pub high : p ≤ length t

abbrev pub Heads : List ℕ → ℕ → Option ℕ → Type 0
Heads t i (Some p) = Head t i p
Heads t i None = (d : ℕ) → is_component d (value_at t i) ≡ false

-- a component of n levels, d at most, which ends before e; or there is none
abbrev pub ComponentAt : List ℕ → ℕ → ℕ → Option (ℕ × ℕ) → Type 0
ComponentAt t i d (Some r) = (is_component d (value_at t i) ≡ true) × (r.1 ≡ levels (component_from d (value_at t i))) × (r.1 ≤ d) × Next t i r.0
ComponentAt t i d None = is_component d (value_at t i) ≡ false

-- a calendar of n levels, or there is none
abbrev pub Shapes : List ℕ → Option ℕ → Type 0
Shapes t (Some n) = (is_calendar (value_at t 0) ≡ true) × (n ≡ levels (component_from most_open (value_at t 0)))
Shapes t None = is_calendar (value_at t 0) ≡ false
