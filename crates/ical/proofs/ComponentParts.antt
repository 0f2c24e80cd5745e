-- A component, its properties and its sub-components, by their places.
use Prim.Native.Nat.{ℕ, zero, suc, ◌-◌}
use mathlib.Core.Path.{◌≡◌, refl, ap, ◌∙◌}
use mathlib.Core.Bool.{true}
use mathlib.Core.Logic.{inl}
use mathlib.Core.List.{List, [], ◌∷◌, ◌++◌, map}
use native.Mathlib.Omega.{arith}
use lib.Dec.{eqb}
use lib.ListN.{length}
use Rattle.octets.specs.Basics.{◌and◌}
use Rattle.octets.specs.Optional.{is_some, holds}
use Rattle.octets.specs.Classes.{is_lower_name}
use Rattle.octets.specs.Answers.{refused}
use Rattle.octets.proofs.Cases.{never, both}
use Rattle.types.specs.Table.{Table}
use Rattle.json_text.specs.Tree.{Json, string?, array?, list_of_items, octets_of, elements, element}
use Rattle.json_text.specs.Tape.{tag_array, tag_end}
use Rattle.tape.specs.Decode.{other_items, tag_at, value_at, items_at, list_at}
use Rattle.tape.specs.Promise.{After, Next, Left}
use Rattle.tape.proofs.Values.{list-end, list-first, list-next}
use Rattle.tape.proofs.Walks.{along-start, along-next, along-left, elements-inside, next-inside}
use Rattle.conversion_theory.specs.Tree.{Property, component, forest_of, properties_of, properties_in}
use Rattle.conversion_theory.specs.Skeleton.{is_list_of, is_property, is_component, property_from, component_from}
use Rattle.conversion_theory.specs.ToIcal.{checked_all}
use Rattle.ical_skeleton.proofs.Parts.{second_is, third-is}
use Rattle.ical.proofs.Arrays.{list-array, component-array}
use Rattle.ical.proofs.PropertyTests.{ok, checked-none, both-checked, first-refused}

-- what the test of a component tells
pub record Composed (d : ℕ) (j : Json) : Type 0 where
  pub levels : (d ≡ 0) → ⊥
  pub properties : is_list_of is_property (element 1 j) ≡ true
  pub subs : is_list_of (is_component (d - 1)) (element 2 j) ≡ true

pub composed : (d : ℕ) (j : Json) → is_component d j ≡ true → Composed d j
unfolding is_component
composed zero j h = never h refl
composed (suc d) j h =
    let l = eqb (length (elements j)) 3 in
    let s = is_list_of (is_component d) (element 2 j) in
    let p = is_list_of is_property (element 1 j) in
    let n = holds is_lower_name (string? (element 0 j)) in
    let a = (both (is_some (array? j)) (n and (p and (s and l))) h).1 in
    let b = (both n (p and (s and l)) a).1 in
    let c = both p (s and l) b in
    let e : suc d - 1 ≡ d = omega arith in
    record { levels = λ z. omega arith; properties = c.0; subs = rw e (both s l c.1).0 }

pub component-is : (d : ℕ) (j : Json) → ((d ≡ 0) → ⊥)
    → component_from d j ≡ component (octets_of (element 0 j)) (map property_from (elements (element 1 j))) (forest_of (map (component_from (d - 1)) (elements (element 2 j))))
unfolding component_from
component-is zero j n = absurd (n refl)
component-is (suc d) j n = let e : suc d - 1 ≡ d = omega arith in rw e

-- the properties of sub-components
abbrev pub sub_properties : ℕ → List Json → List Property
sub_properties d js = properties_in (forest_of (map (component_from d) js))

pub properties-are : (d : ℕ) (j : Json) → ((d ≡ 0) → ⊥) → properties_of (component_from d j) ≡ map property_from (elements (element 1 j)) ++ sub_properties (d - 1) (elements (element 2 j))
unfolding properties_of
properties-are d j n = rw (component-is d j n)

subs-none : (d : ℕ) → sub_properties d [] ≡ []
unfolding properties_of forest_of
subs-none d = refl

subs-more : (d : ℕ) (j : Json) (js : List Json) → sub_properties d (j ∷ js) ≡ properties_of (component_from d j) ++ sub_properties d js
unfolding properties_of forest_of
subs-more d j js = refl

-- tested along the tape
module _ (T : Table) (d : ℕ) (t : List ℕ) (i : ℕ) where
  pub subs-end : tag_at t i ≡ tag_end → checked_all T (sub_properties d (list_at t i)) ≡ ok
  subs-end e = ap (λ js. checked_all T (sub_properties d js)) (list-end t i e) ∙ ap (checked_all T) (subs-none d) ∙ checked-none T

  module _ (n : (tag_at t i ≡ tag_end) → ⊥) where
    pub subs-on : {e : ℕ} → Next t i e → checked_all T (properties_of (component_from d (value_at t i))) ≡ ok → checked_all T (sub_properties d (list_at t i)) ≡ checked_all T (sub_properties d (list_at t e))
    subs-on {e} y h = ap (λ js. checked_all T (sub_properties d js)) (list-next y n) ∙ ap (checked_all T) (subs-more d (value_at t i) (list_at t e)) ∙ both-checked T (properties_of (component_from d (value_at t i))) (sub_properties d (list_at t e)) h

    pub subs-off : {m : ℕ} → checked_all T (properties_of (component_from d (value_at t i))) ≡ refused m → checked_all T (sub_properties d (list_at t i)) ≡ refused m
    subs-off h =
        let js = list_of_items (other_items (items_at t i)) in
        ap (λ js. checked_all T (sub_properties d js)) (list-first t i n) ∙ ap (checked_all T) (subs-more d (value_at t i) js) ∙ first-refused T (properties_of (component_from d (value_at t i))) (sub_properties d js) h

-- the places of a component: a inside it, b of its properties, c of its sub-components
module _ (d : ℕ) {t : List ℕ} {at a b : ℕ} (h : is_component d (value_at t at) ≡ true) (x : After t at a) (y : Next t a b) where
  array : tag_at t at ≡ tag_array
  array = component-array t at d h

  pub properties-there : is_list_of is_property (value_at t b) ≡ true
  properties-there = rw (second_is x array y) at (composed d (value_at t at) h).properties

  module _ (T : Table) where
    pub component-refused : {m : ℕ} → checked_all T (map property_from (elements (value_at t b))) ≡ refused m → checked_all T (properties_of (component_from d (value_at t at))) ≡ refused m
    component-refused r = ap (checked_all T) (properties-are d (value_at t at) (composed d (value_at t at) h).levels) ∙ first-refused T (map property_from (elements (element 1 (value_at t at)))) (sub_properties (d - 1) (elements (element 2 (value_at t at)))) (rw (second_is x array y) r)

  module _ {c : ℕ} (z : Next t b c) where
    pub subs-there : is_list_of (is_component (d - 1)) (value_at t c) ≡ true
    subs-there = rw (third-is x array y z) at (composed d (value_at t at) h).subs

    pub subs-tag : tag_at t c ≡ tag_array
    subs-tag = list-array t c (is_component (d - 1)) subs-there

    pub component-end : {e f : ℕ} → Next t c e → Left t e f → Next t at f
    component-end u l = next-inside x (inl array) (along-left (along-next (along-next (along-next (along-start x.high) y) z) u) l)

    pub component-checked : (T : Table) {i : ℕ} → After t c i → checked_all T (map property_from (elements (value_at t b))) ≡ ok
        → checked_all T (properties_of (component_from d (value_at t at))) ≡ checked_all T (sub_properties (d - 1) (list_at t i))
    component-checked T {i} u r =
        ap (checked_all T) (properties-are d (value_at t at) (composed d (value_at t at) h).levels)
        ∙ both-checked T (map property_from (elements (element 1 (value_at t at)))) (sub_properties (d - 1) (elements (element 2 (value_at t at)))) (rw (second_is x array y) r)
        ∙ ap (λ js. checked_all T (sub_properties (d - 1) js)) (ap elements (third-is x array y z) ∙ elements-inside u subs-tag)
