-- The jCal of a property: it has the skeleton, is neat, and says the property.
use Prim.Native.Nat.{ℕ, suc}
use mathlib.Core.Path.{◌≡◌, refl, ap, ◌∙◌}
use mathlib.Core.Bool.{true, false}
use mathlib.Core.List.{List, [], ◌∷◌, map}
use native.Mathlib.Omega.{arith}
use borrow.Author.Tests.{le-leb}
use lib.Dec.{leb}
use lib.ListN.{length}
use Rattle.octets.specs.Basics.{octets, ◌or◌, all, any, filled, same, among, twice, All}
use Rattle.octets.specs.Optional.{is_some, holds, given}
use Rattle.octets.specs.Classes.{between, is_upper, is_name, is_lower_name, lower_octet, lower, same_name, text_octet}
use Rattle.octets.specs.Utf8.{utf8}
use Rattle.octets.proofs.Cases.{never, both, neither}
use Rattle.octets.proofs.Classes.{lower-name, name-lower}
use Rattle.json_text.specs.Tree.{Json, str, list_of_items, string?, number?, array?, object?, octets_of, elements, element, members}
use Rattle.tape.specs.Sound.{has_key, distinct_keys}
use Rattle.content.specs.Line.{Param}
use Rattle.content.specs.Parameters.{name_twice, plain_or, members_of}
use Rattle.content.proofs.Written.{Writable}
use Rattle.content.proofs.WrittenClean.{Texts}
use Rattle.values.proofs.Neat.{Neat, n-str, n-arr, n-obj, n-item, NeatMembers, n-empty, n-member, neat-items}
use Rattle.values.proofs.TextLaws.{list-items}
use Rattle.values.proofs.Naming.{same_case}
use Rattle.conversion_theory.specs.Tree.{Property}
use Rattle.conversion_theory.specs.Jcal.{property_json}
use Rattle.conversion_theory.specs.Skeleton.{is_json_string, is_list_of, is_parameter, are_parameters, is_property_name, is_property, values_from, params_from, property_from}
use Rattle.conversion_theory.proofs.PropertyLaws.{Told}
use Rattle.conversion_theory.proofs.ValueParameter.{name-textual}

-- a name that is neither BEGIN nor END
pub property-name : (n : List ℕ) → is_name n ≡ true → same_name n (octets "BEGIN") ≡ false → same_name n (octets "END") ≡ false → is_property_name (lower n) ≡ true
unfolding is_property_name
property-name n h b e = rw (name-lower n h, begins ∙ b, ends ∙ e)
  where
    begins : same (lower n) (octets "begin") ≡ same_name n (octets "BEGIN")
    begins = unfold lower lower_octet is_upper between in same_case n (octets "BEGIN")

    ends : same (lower n) (octets "end") ≡ same_name n (octets "END")
    ends = unfold lower lower_octet is_upper between in same_case n (octets "END")

-- the values of a parameter
strings-are : (vs : List (List ℕ)) → all is_json_string (map str vs) ≡ true
unfolding all is_json_string is_some string?
strings-are [] = refl
strings-are (v ∷ vs) = strings-are vs

strings-back : (vs : List (List ℕ)) → map octets_of (map str vs) ≡ vs
unfolding octets_of given number? string?
strings-back [] = refl
strings-back (v ∷ vs) = ap (λ (l : List (List ℕ)). v ∷ l) (strings-back vs)

values-are : (vs : List (List ℕ)) → filled vs ≡ true → is_parameter (plain_or (map str vs)) ≡ true
unfolding is_parameter plain_or is_json_string is_some string? is_list_of holds array? elements given filled
values-are [] h = never h refl
values-are (v ∷ []) h = refl
values-are (v ∷ w ∷ vs) h = rw (list-items (map str (v ∷ w ∷ vs)), strings-are (v ∷ w ∷ vs))

values-back : (vs : List (List ℕ)) → filled vs ≡ true → values_from (plain_or (map str vs)) ≡ vs
unfolding values_from plain_or given string? elements array? filled
values-back [] h = never h refl
values-back (v ∷ []) h = refl
values-back (v ∷ w ∷ vs) h = rw (list-items (map str (v ∷ w ∷ vs)), strings-back (v ∷ w ∷ vs))

strings-neat : (d : ℕ) (vs : List (List ℕ)) → all utf8 vs ≡ true → all (all text_octet) vs ≡ true → All (Neat d) (map str vs)
unfolding all
strings-neat d [] h k = tt
strings-neat d (v ∷ vs) h k =
    let a = both (utf8 v) (all utf8 vs) h in
    let b = both (all text_octet v) (all (all text_octet) vs) k in
    (n-str (record { encoded = a.0; texts = b.0 }), strings-neat d vs a.1 b.1)

plain-neat : (d : ℕ) (js : List Json) → All (Neat d) js → All (Neat (suc d)) js → Neat (suc d) (plain_or js)
unfolding plain_or
plain-neat d [] h k = n-arr (neat-items d [] tt)
plain-neat d (j ∷ []) h k = k.0
plain-neat d (i ∷ j ∷ js) h k = n-arr (neat-items d (i ∷ j ∷ js) h)

-- parameters
params_are : (ps : List Param) → All Writable ps → are_parameters (members_of ps) ≡ true
unfolding are_parameters members_of
params_are [] w = refl
params_are (p ∷ ps) w = rw (w.0.named, values-are p.values w.0.valued, params_are ps w.1)

params-back : (ps : List Param) → All Writable ps → params_from (members_of ps) ≡ ps
unfolding params_from members_of
params-back [] w = refl
params-back (p ∷ ps) w = rw (values-back p.values w.0.valued, params-back ps w.1)

params-neat : (ps : List Param) → All Writable ps → All Texts ps → NeatMembers 1 (members_of ps)
unfolding members_of
params-neat [] w t = n-empty
params-neat (p ∷ ps) w t =
    n-member (name-textual p.name (lower-name p.name w.0.named))
    (plain-neat 0 (map str p.values) (strings-neat 0 p.values t.0.utf t.0.plain) (strings-neat 1 p.values t.0.utf t.0.plain))
    (params-neat ps w.1 t.1)

keys-among : (k : List ℕ) (ps : List Param) → has_key k (members_of ps) ≡ among k (map (λ (p : Param). p.name) ps)
unfolding has_key members_of among any
keys-among k [] = refl
keys-among k (p ∷ ps) = ap (λ b. same k p.name or b) (keys-among k ps)

keys-distinct : (ps : List Param) → name_twice ps ≡ false → distinct_keys (members_of ps) ≡ true
unfolding distinct_keys members_of name_twice twice
keys-distinct [] h = refl
keys-distinct (p ∷ ps) h =
    let b = neither (among p.name (map (λ (p : Param). p.name) ps)) (name_twice ps) h in
    rw (keys-among p.name ps, b.0) (keys-distinct ps b.1)

-- THE LAW
module _ (q : Property) (n : is_property_name q.name ≡ true) (w : All Writable q.params) (t : is_lower_name q.type ≡ true) (v : filled q.values ≡ true) where
  many-enough : (vs : List Json) → filled vs ≡ true → leb 4 (suc (suc (suc (length vs)))) ≡ true
  unfolding filled
  many-enough [] h = never h refl
  many-enough (j ∷ js) h = le-leb 4 (suc (suc (suc (suc (length js))))) (omega arith)

  told_is : is_property (property_json q) ≡ true
  unfolding is_property property_json is_some holds array? string? object? element elements given list_of_items
  told_is = rw (n, params_are q.params w, t, list-items q.values) (many-enough q.values v)

  told-from : property_from (property_json q) ≡ q
  unfolding property_from property_json array? string? number? object? octets_of element elements members given list_of_items
  told-from = rw (params-back q.params w, list-items q.values)

  lower-named : is_lower_name q.name ≡ true
  unfolding is_property_name
  lower-named = (both (is_lower_name q.name) _ n).0

  pub property-told : All Texts q.params → name_twice q.params ≡ false → All (Neat 2) q.values → Told q
  property-told x o k = record {
    is = told_is;
    neat = neat;
    from = told-from;
  }
    where
      text : (s : List ℕ) → is_lower_name s ≡ true → Neat 2 (str s)
      text s h = n-str (name-textual s (lower-name s h))

      neat : Neat 3 (property_json q)
      neat = unfold property_json in n-arr (n-item (text q.name lower-named) (n-item (n-obj (keys-distinct q.params o) (params-neat q.params w x)) (n-item (text q.type t) (neat-items 2 q.values k))))
