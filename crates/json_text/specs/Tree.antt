-- JSON values (RFC 8259 3): strings as their decoded octets, numbers as their text, members in order.
use Rattle.std.specs.Prelude.{ℕ, Bool, true, false, List, [], ◌∷◌, get_or}
use Rattle.std.proofs.Math.Option.{Option, none, some}
use Rattle.octets.specs.Optional.{given}

mutual
  pub data Json : Type 0 where
    null falsity truth : Json
    num str : List ℕ → Json
    arr : Items → Json
    obj : Members → Json

  pub data Items : Type 0 where
    no_items : Items
    item : Json → Items → Items

  pub data Members : Type 0 where
    no_members : Members
    member : List ℕ → Json → Members → Members

unfoldable pub items_of : List Json → Items
items_of [] = no_items
items_of (j ∷ js) = item j (items_of js)

unfoldable pub list_of_items : Items → List Json
list_of_items no_items = []
list_of_items (item j js) = j ∷ list_of_items js

-- what a value holds, if it is a string, a number, a boolean, an array, an object
unfoldable pub string? : Json → Option (List ℕ)
string? null = none
string? falsity = none
string? truth = none
string? (num t) = none
string? (str t) = some t
string? (arr js) = none
string? (obj ms) = none

unfoldable pub number? : Json → Option (List ℕ)
number? null = none
number? falsity = none
number? truth = none
number? (num t) = some t
number? (str t) = none
number? (arr js) = none
number? (obj ms) = none

unfoldable pub boolean? : Json → Option Bool
boolean? null = none
boolean? falsity = some false
boolean? truth = some true
boolean? (num t) = none
boolean? (str t) = none
boolean? (arr js) = none
boolean? (obj ms) = none

unfoldable pub array? : Json → Option Items
array? null = none
array? falsity = none
array? truth = none
array? (num t) = none
array? (str t) = none
array? (arr js) = some js
array? (obj ms) = none

unfoldable pub object? : Json → Option Members
object? null = none
object? falsity = none
object? truth = none
object? (num t) = none
object? (str t) = none
object? (arr js) = none
object? (obj ms) = some ms

-- the octets of a string or a number; other values have none
unfoldable pub octets_of : Json → List ℕ
octets_of j = given (given [] (λ t. t) (string? j)) (λ t. t) (number? j)

-- the elements of an array; other values have none
unfoldable pub elements : Json → List Json
elements j = given [] list_of_items (array? j)

-- one of them, counted from 0; null where it is not there
unfoldable pub element : ℕ → Json → Json
element n j = get_or (elements j) n null

-- the members of an object; other values have none
unfoldable pub members : Json → Members
members j = given no_members (λ ms. ms) (object? j)
