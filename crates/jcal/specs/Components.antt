-- The component that the lines from a place on make, as the code walks them: its properties, its sub-components, and where it ends.
use Rattle.std.specs.Prelude.{ℕ, zero, suc, Bool, true, false, List, [], ◌∷◌, ◌++◌, map}
use Rattle.octets.specs.Basics.{octets, pick}
use Rattle.octets.specs.Answers.{Answer, refused, accepted, then}
use Rattle.json_text.specs.Tree.{Items, items_of}
use Rattle.json_text.specs.Print.{first_item, more_items, print_string}
use Rattle.content.specs.Line.{Line}
use Rattle.conversion_theory.specs.Tree.{Property, property, Component, component}
use Rattle.conversion_theory.specs.Structure.{Event, begins, ends, carries, stray}
use Rattle.conversion_theory.specs.Growth.{each_property, Level, innermost, around, levels_from}
use Rattle.conversion_theory.specs.Jcal.{property_json, jcals_of}

-- the property that is accepted; of no use where it is refused
unfoldable pub property_or : Answer Property → Property
property_or (refused n) = property [] [] [] []
property_or (accepted p) = p

unfoldable pub is_accepted : {A : Type 0} → Answer A → Bool
is_accepted (refused n) = false
is_accepted (accepted a) = true

-- an event with its property read by f
unfoldable pub read_event : (Line → Answer Property) → Event Line → Event Property
read_event f (begins n) = begins n
read_event f (ends n) = ends n
read_event f (carries l) = carries (property_or (f l))
read_event f stray = stray

-- f accepts the property, if it is one
unfoldable pub reads : (Line → Answer Property) → Event Line → Bool
reads f (begins n) = true
reads f (ends n) = true
reads f (carries l) = is_accepted (f l)
reads f stray = true

-- 7, 8 or 9 of a line, if it is a property
unfoldable pub event_tested : (Line → Answer Property) → Event Line → Answer (Unit {0})
event_tested f (begins n) = accepted tt
event_tested f (ends n) = accepted tt
event_tested f (carries l) = then (f l) (λ _. accepted tt)
event_tested f stray = accepted tt

-- 7, 8 or 9 of all lines, at the first property in fault
abbrev pub each_tested : (Line → Answer Property) → List (Event Line) → Answer (Unit {0})
each_tested f es = then (each_property f es) (λ _. accepted tt)

-- the events behind the END of the component in whose lines they begin, where k components are open within it
unfoldable pub behind_end : ℕ → List (Event Line) → List (Event Line)
behind_end k [] = []
behind_end k (begins n ∷ es) = behind_end (suc k) es
behind_end zero (ends n ∷ es) = es
behind_end (suc k) (ends n ∷ es) = behind_end k es
behind_end k (carries l ∷ es) = behind_end k es
behind_end k (stray ∷ es) = behind_end k es

-- the events from the next sub-component or END of a component on, an END without its name; an END where no line is left
unfoldable pub next_of : List (Event Line) → List (Event Line)
next_of [] = ends [] ∷ []
next_of (begins n ∷ es) = begins n ∷ es
next_of (ends n ∷ es) = ends [] ∷ es
next_of (carries l ∷ es) = next_of es
next_of (stray ∷ es) = next_of es

unfoldable pub outward : ℕ → List Level → List Level
outward zero ls = ls
outward (suc k) ls = outward k (around ls)

-- what stands from here on of the component around the k that are open within it
unfoldable pub level_at : (Line → Answer Property) → ℕ → List (Event Line) → Level
level_at f k es = innermost (outward k (levels_from (map (read_event f) es)))

-- the component of this name whose lines begin here
unfoldable pub component_at : (Line → Answer Property) → List ℕ → List (Event Line) → Component
component_at f n es = component n (level_at f 0 es).properties (level_at f 0 es).subs

-- a comma, but before the first item
unfoldable pub leading_comma : Bool → List ℕ
leading_comma first = pick first [] (octets ",")

-- items and what closes them, where the first is due or some stand already
unfoldable pub items_rest : Bool → Items → List ℕ
items_rest first js = pick first (first_item js) (more_items js)

unfoldable pub properties_text : (Line → Answer Property) → Bool → List (Event Line) → List ℕ
properties_text f first es = items_rest first (items_of (map property_json (level_at f 0 es).properties))

unfoldable pub subs_text : (Line → Answer Property) → Bool → List (Event Line) → List ℕ
subs_text f first es = items_rest first (jcals_of (level_at f 0 es).subs)

-- a component up to its properties
unfoldable pub name_text : List ℕ → List ℕ
name_text n = octets "[" ++ (print_string n ++ octets ",[")
