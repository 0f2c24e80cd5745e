-- What a component has that jCal holds: lowercase names of components, properties, parameters and types, parameters with values, and strings in UTF-8.
use Prim.Native.Nat.{ℕ, zero, suc}
use mathlib.Core.Path.{◌≡◌, refl, sym, ap, ◌∙◌}
use mathlib.Core.Bool.{Bool, true}
use mathlib.Core.List.{List, [], ◌∷◌, map}
use mathlib.Core.Option.{Option, none, some}
use lib.Dec.{leb}
use lib.ListN.{length}
use Rattle.octets.specs.Basics.{◌and◌, ◌or◌, all, filled, All}
use Rattle.octets.specs.Optional.{is_some, holds, given}
use Rattle.octets.specs.Classes.{is_lower_name}
use Rattle.octets.specs.Limits.{most_levels, most_open}
use Rattle.octets.specs.Utf8.{utf8}
use Rattle.octets.specs.Answers.{accepted, unless}
use Rattle.octets.proofs.Cases.{never, both, and-true}
use Rattle.octets.proofs.Answers.{accepted-same, unless-accepted}
use Rattle.json_text.specs.Tree.{Json, Members, no_members, member, string?, array?, object?, list_of_items, octets_of, elements, element, members}
use Rattle.json_text.proofs.Decoding.{Decoded}
use Rattle.tape.specs.Sound.{sound}
use Rattle.content.specs.Line.{Param}
use Rattle.content.proofs.Written.{Writable}
use Rattle.values.proofs.Encoded.{Encoded, EncodedMembers, e-empty, e-member, sound-encoded, encoded-octets, encoded-elements, encoded-element, encoded-members, encoded-drop}
use Rattle.values.proofs.CleanValues.{holds-is, string-octets}
use Rattle.conversion_theory.specs.Tree.{Property, Component, forest_of, levels}
use Rattle.conversion_theory.specs.Skeleton.{is_json_string, is_list_of, is_parameter, are_parameters, is_property_name, is_property, is_component, is_calendar, values_from, params_from, property_from, component_from, calendar_of}
use Rattle.conversion_theory.proofs.Shapes.{Made, made, MadeIn, nothing-more, made_more}

-- what tests 3 and 12 say of a property
pub record PropertyFine (p : Property) : Type 0 where
  pub name : is_lower_name p.name ≡ true
  pub type : is_lower_name p.type ≡ true
  pub writable : All Writable p.params
  pub utf : All (λ (q : Param). all utf8 q.values ≡ true) p.params
  pub values : All Encoded p.values

-- a parameter
octets-filled : (js : List Json) → filled js ≡ true → filled (map octets_of js) ≡ true
unfolding filled
octets-filled [] h = h
octets-filled (j ∷ js) h = refl

octets-utf : (js : List Json) → All Encoded js → all utf8 (map octets_of js) ≡ true
unfolding all
octets-utf [] h = refl
octets-utf (j ∷ js) h = and-true (encoded-octets h.0) (octets-utf js h.1)

values-filled : (j : Json) → is_parameter j ≡ true → filled (values_from j) ≡ true
unfolding is_parameter values_from is_json_string
values-filled j h = by (string? j) h
  where
    by : (o : Option (List ℕ)) → (is_some o or (is_list_of is_json_string j and filled (elements j))) ≡ true → filled (given (map octets_of (elements j)) (λ t. t ∷ []) o) ≡ true
    by none h = unfold given in octets-filled (elements j) (both (is_list_of is_json_string j) (filled (elements j)) (unfold is_some in h)).1
    by (some t) h = unfold given filled in refl

values-utf : (j : Json) → Encoded j → all utf8 (values_from j) ≡ true
unfolding values_from
values-utf j e = by (string? j) refl
  where
    by : (o : Option (List ℕ)) → string? j ≡ o → all utf8 (given (map octets_of (elements j)) (λ t. t ∷ []) o) ≡ true
    by none q = unfold given in octets-utf (elements j) (encoded-elements e)
    by (some t) q = unfold given all in and-true (sym (ap utf8 (string-octets j t q)) ∙ encoded-octets e) refl

params-writable : (ms : Members) → are_parameters ms ≡ true → All Writable (params_from ms)
unfolding are_parameters params_from
params-writable no_members h = tt
params-writable (member k j ms) h =
    let a = both (is_lower_name k) (is_parameter j and are_parameters ms) h in
    let b = both (is_parameter j) (are_parameters ms) a.1 in
    (record { named = a.0; valued = values-filled j b.0 }, params-writable ms b.1)

params-utf : {ms : Members} → EncodedMembers ms → All (λ (q : Param). all utf8 q.values ≡ true) (params_from ms)
unfolding params_from
params-utf e-empty = tt
params-utf (e-member {k} {j} e es) = (values-utf j e, params-utf es)

-- a property
pub string-is : (p : List ℕ → Bool) (j : Json) → holds p (string? j) ≡ true → p (octets_of j) ≡ true
string-is p j h = holds-is p (string? j) h (λ t e k. rw (string-octets j t e) k)

property-fine : (j : Json) → Encoded j → is_property j ≡ true → PropertyFine (property_from j)
unfolding is_property property_from is_property_name
property-fine j e h =
    let a = both (is_some (array? j)) _ h in
    let b = both (holds is_property_name (string? (element 0 j))) _ a.1 in
    let c = both (holds are_parameters (object? (element 1 j))) _ b.1 in
    let d = both (holds is_lower_name (string? (element 2 j))) (leb 4 (length (elements j))) c.1 in
    record {
      name = (both (is_lower_name (octets_of (element 0 j))) _ (unfold is_property_name in string-is is_property_name (element 0 j) b.0)).0;
      type = string-is is_lower_name (element 2 j) d.0;
      writable = holds-is are_parameters (object? (element 1 j)) c.0 (λ ms q k. unfold members given in rw q (params-writable ms k));
      utf = params-utf (encoded-members (encoded-element 1 e));
      values = encoded-drop 3 (elements j) (encoded-elements e);
    }

-- and a component
list-is : (p : Json → Bool) (j : Json) → is_list_of p j ≡ true → all p (elements j) ≡ true
unfolding is_list_of elements given
list-is p j h = holds-is (λ js. all p (list_of_items js)) (array? j) h (λ js e k. rw e k)

properties-fine : (js : List Json) → All Encoded js → all is_property js ≡ true → All PropertyFine (map property_from js)
unfolding all
properties-fine [] e h = tt
properties-fine (j ∷ js) e h = let b = both (is_property j) (all is_property js) h in (property-fine j e.0 b.0, properties-fine js e.1 b.1)

forest-fine : (d : ℕ) → ((j : Json) → Encoded j → is_component d j ≡ true → Made PropertyFine (component_from d j))
    → (js : List Json) → All Encoded js → all (is_component d) js ≡ true → MadeIn PropertyFine (forest_of (map (component_from d) js))
unfolding all forest_of
forest-fine d f [] e h = nothing-more
forest-fine d f (j ∷ js) e h = let b = both (is_component d j) (all (is_component d) js) h in made_more (f j e.0 b.0) (forest-fine d f js e.1 b.1)

component-fine : (d : ℕ) (j : Json) → Encoded j → is_component d j ≡ true → Made PropertyFine (component_from d j)
unfolding is_component component_from
component-fine zero j e h = never h refl
component-fine (suc d) j e h =
    let a = both (is_some (array? j)) _ h in
    let b = both (holds is_lower_name (string? (element 0 j))) _ a.1 in
    let c = both (is_list_of is_property (element 1 j)) _ b.1 in
    let f = both (is_list_of (is_component d) (element 2 j)) _ c.1 in
    made (string-is is_lower_name (element 0 j) b.0)
    (properties-fine (elements (element 1 j)) (encoded-elements (encoded-element 1 e)) (list-is is_property (element 1 j) c.0))
    (forest-fine d (component-fine d) (elements (element 2 j)) (encoded-elements (encoded-element 2 e)) (list-is (is_component d) (element 2 j) f.0))

-- THE LAW
pub calendar-fine : (j : Json) (c : Component) → Decoded j → calendar_of j ≡ accepted c → Made PropertyFine c
unfolding calendar_of is_calendar
calendar-fine j c d e =
    let a = unless-accepted 12 (sound j and is_calendar j) (λ _. unless 6 (leb (levels (component_from most_open j)) most_levels) (λ _. accepted (component_from most_open j))) c e in
    let b = unless-accepted 6 (leb (levels (component_from most_open j)) most_levels) (λ _. accepted (component_from most_open j)) c a.1 in
    let s = both (sound j) (is_calendar j) a.0 in
    rw (← accepted-same b.1) (component-fine most_open j (sound-encoded d s.0) (both (is_component most_open j) _ s.1).0)
