-- What is promised of the places of a property's parts.
use Rattle.std.specs.Prelude.{ℕ, ◌+◌, ◌-◌, ◌≤◌, ◌≡◌, List, length, take, drop}
use Rattle.json_text.specs.Tree.{elements, members}
use Rattle.json_text.specs.Tape.{tag_array}
use Rattle.tape.specs.Decode.{pop, view, tag_at, value_at, list_at, members_at}
use Rattle.tape.specs.Promise.{After}
use Rattle.tape.specs.declared.Text.{Text}
use Rattle.conversion_theory.specs.Skeleton.{params_from, property_from}
use Rattle.ical_properties.specs.declared.PropertyParts.{PropertyParts}

-- a stands in the group of the array at i, if an array stands there
pub record InGroup (t : List ℕ) (i a : ℕ) : Type 0 where
  pub is : tag_at t i ≡ tag_array → pop (view t a) ≡ pop (view t (i + 1))
  pub low : tag_at t i ≡ tag_array → i + 1 ≤ a
  pub high : a ≤ length t

-- a is the place of the first value of the group with the tag b at i; or the tape's end, where another value stands there
pub record Into (b : ℕ) (t : List ℕ) (i a : ℕ) : Type 0 where
  pub there : tag_at t i ≡ b → After t i a
  pub elsewhere : ((tag_at t i ≡ b) → ⊥) → a ≡ length t

-- the elements of the array at i stand from a on
pub record IntoArray (t : List ℕ) (i a : ℕ) : Type 0 where
  pub list : list_at t a ≡ elements (value_at t i)
  pub within : InGroup t i a

abbrev pub IntoObject : List ℕ → ℕ → ℕ → Type 0
IntoObject t i a = members_at t a ≡ members (value_at t i)

-- these octets of the tape
pub record OctetsAre (t : List ℕ) (x : Text) (s : List ℕ) : Type 0 where
  pub part : take (x.to - x.from) (drop x.from t) ≡ s
  pub order : x.from ≤ x.to
  pub within : x.to ≤ length t

-- the parts of the property at i
pub record PartsAt (t : List ℕ) (i : ℕ) (r : PropertyParts) : Type 0 where
  pub name : OctetsAre t r.name (property_from (value_at t i)).name
  pub params : params_from (members_at t r.params) ≡ (property_from (value_at t i)).params
  pub kind : OctetsAre t r.kind (property_from (value_at t i)).type
  pub values : list_at t r.values ≡ (property_from (value_at t i)).values
  pub within : InGroup t i r.values
