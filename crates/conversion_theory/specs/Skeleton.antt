-- The jCal skeleton (01, Values, number 12; RFC 7265 3.2 to 3.5), and the component that a JSON value holds.
use Rattle.std.specs.Prelude.{ℕ, zero, suc, Bool, true, false, not, List, [], ◌∷◌, map, eqb, leb, length, drop}
use Rattle.octets.specs.Basics.{octets, ◌and◌, ◌or◌, all, filled, same}
use Rattle.octets.specs.Optional.{is_some, holds, given}
use Rattle.octets.specs.Classes.{is_lower_name}
use Rattle.octets.specs.Limits.{most_levels, most_open}
use Rattle.octets.specs.Answers.{Answer, accepted, unless}
use Rattle.json_text.specs.Tree.{Json, Members, no_members, member, string?, array?, object?, list_of_items, octets_of, elements, element, members}
use Rattle.tape.specs.Sound.{sound}
use Rattle.content.specs.Line.{Param}
use Rattle.conversion_theory.specs.Tree.{Property, property, Component, component, leaf, forest_of, levels}

unfoldable pub is_json_string : Json → Bool
is_json_string j = is_some (string? j)

-- an array of values that all pass the test
unfoldable pub is_list_of : (Json → Bool) → Json → Bool
is_list_of p j = holds (λ js. all p (list_of_items js)) (array? j)

-- a parameter: a string, or a filled array of strings
unfoldable pub is_parameter : Json → Bool
is_parameter j = is_json_string j or (is_list_of is_json_string j and filled (elements j))

-- parameters: an object under lowercase names
unfoldable pub are_parameters : Members → Bool
are_parameters no_members = true
are_parameters (member k j ms) = is_lower_name k and is_parameter j and are_parameters ms

-- a property's name: neither "begin" nor "end"
unfoldable pub is_property_name : List ℕ → Bool
is_property_name n = is_lower_name n and not (same n (octets "begin")) and not (same n (octets "end"))

-- name, parameters, type, and at least one value
unfoldable pub is_property : Json → Bool
is_property j =
    is_some (array? j) and holds is_property_name (string? (element 0 j)) and holds are_parameters (object? (element 1 j))
    and holds is_lower_name (string? (element 2 j)) and leb 4 (length (elements j))

-- exactly a name, properties and sub-components. The levels left fall; JSON has no more open than there are.
unfoldable pub is_component : ℕ → Json → Bool
is_component zero j = false
is_component (suc d) j =
    is_some (array? j) and holds is_lower_name (string? (element 0 j)) and is_list_of is_property (element 1 j)
    and is_list_of (is_component d) (element 2 j) and eqb (length (elements j)) 3

unfoldable pub is_calendar : Json → Bool
is_calendar j = is_component most_open j and same (octets_of (element 0 j)) (octets "vcalendar")

-- What it holds. A one-string array reads as the string (01, Parameters).
unfoldable pub values_from : Json → List (List ℕ)
values_from j = given (map octets_of (elements j)) (λ t. t ∷ []) (string? j)

unfoldable pub params_from : Members → List Param
params_from no_members = []
params_from (member k j ms) = record { name = k; values = values_from j } ∷ params_from ms

unfoldable pub property_from : Json → Property
property_from j = property (octets_of (element 0 j)) (params_from (members (element 1 j))) (octets_of (element 2 j)) (drop 3 (elements j))

unfoldable pub component_from : ℕ → Json → Component
component_from zero j = component [] [] leaf
component_from (suc d) j =
    component (octets_of (element 0 j)) (map property_from (elements (element 1 j))) (forest_of (map (component_from d) (elements (element 2 j))))

-- 12 at all depths, then 6 for a ninth level
unfoldable pub calendar_of : Json → Answer Component
calendar_of j =
    unless 12 (sound j and is_calendar j) (λ _.
    unless 6 (leb (levels (component_from most_open j)) most_levels) (λ _.
    accepted (component_from most_open j)))
