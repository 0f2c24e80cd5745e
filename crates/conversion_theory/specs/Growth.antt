-- Properties read in text order, and the component that BEGIN, END and properties make (01, Lines: properties first, then sub-components, each in order).
use Rattle.std.specs.Prelude.{ℕ, List, [], ◌∷◌}
use Rattle.octets.specs.Answers.{Answer, refused, accepted, then}
use Rattle.conversion_theory.specs.Tree.{Property, Component, component, Forest, leaf, grow}
use Rattle.conversion_theory.specs.Structure.{Event, begins, ends, carries, stray}

unfoldable pub behind_event : {B : Type 0} → Event B → Answer (List (Event B)) → Answer (List (Event B))
behind_event e (refused n) = refused n
behind_event e (accepted es) = accepted (e ∷ es)

-- f at each property, or the refusal of the first one in fault
unfoldable pub each_property : {A B : Type 0} → (A → Answer B) → List (Event A) → Answer (List (Event B))
each_property f [] = accepted []
each_property f (begins n ∷ es) = behind_event (begins n) (each_property f es)
each_property f (ends n ∷ es) = behind_event (ends n) (each_property f es)
each_property f (carries a ∷ es) = then (f a) (λ b. behind_event (carries b) (each_property f es))
each_property f (stray ∷ es) = each_property f es

-- The component from the last line to the first: of each component that is open here, innermost first, what stands from here on.
pub record Level : Type 0 where
  pub properties : List Property
  pub subs : Forest

abbrev pub level : List Property → Forest → Level
level ps cs = record { properties = ps; subs = cs }

unfoldable pub innermost : List Level → Level
innermost [] = level [] leaf
innermost (l ∷ ls) = l

unfoldable pub around : List Level → List Level
around [] = []
around (l ∷ ls) = ls

unfoldable pub with_property : Property → List Level → List Level
with_property p ls = level (p ∷ (innermost ls).properties) (innermost ls).subs ∷ around ls

-- at its BEGIN a component is whole, and joins the one around it
unfoldable pub with_component : List ℕ → List Level → List Level
with_component n ls =
    level (innermost (around ls)).properties (grow (component n (innermost ls).properties (innermost ls).subs) (innermost (around ls)).subs)
    ∷ around (around ls)

unfoldable pub levels_from : List (Event Property) → List Level
levels_from [] = []
levels_from (begins n ∷ es) = with_component n (levels_from es)
levels_from (ends n ∷ es) = level [] leaf ∷ levels_from es
levels_from (carries p ∷ es) = with_property p (levels_from es)
levels_from (stray ∷ es) = levels_from es

-- the outermost component; lines that pass 5 and 6 have one
unfoldable pub outermost : Forest → Component
outermost leaf = component [] [] leaf
outermost (grow c cs) = c

unfoldable pub tree_of : List (Event Property) → Component
tree_of es = outermost (innermost (levels_from es)).subs
