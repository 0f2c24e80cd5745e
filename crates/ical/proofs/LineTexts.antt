-- The lines of properties and components, from the pieces in which they are written.
use Prim.Native.Nat.{ℕ, ◌-◌}
use mathlib.Core.Path.{◌≡◌, refl, sym, ap, ◌∙◌}
use mathlib.Core.Bool.{Bool, true, false}
use mathlib.Core.List.{List, [], ◌∷◌, ◌++◌, map, append-nil, append_assoc}
use mathlib.Core.Option.{none, some}
use lib.ListN.{take, drop}
use Rattle.octets.specs.Basics.{octets, pick, ◌or◌}
use Rattle.octets.specs.Classes.{is_name, upper}
use Rattle.octets.specs.Optional.{is_some}
use Rattle.octets.proofs.Classes.{name-upper}
use Rattle.types.specs.Table.{Table, find}
use Rattle.json_text.specs.Tree.{Json, octets_of, elements, element}
use Rattle.json_text.specs.Tape.{tag_end}
use Rattle.tape.specs.Decode.{tag_at, value_at, list_at, members_at}
use Rattle.tape.specs.Promise.{After, Next, TextAt}
use Rattle.tape.specs.declared.Text.{Text}
use Rattle.tape.proofs.Walks.{elements-inside}
use Rattle.tape.proofs.Values.{list-end, list-next}
use Rattle.content.specs.Line.{Param}
use Rattle.content.specs.Write.{more_values, params_text, line_text}
use Rattle.content.specs.Fold.{text_of}
use Rattle.content.proofs.ParamText.{param-text, name-text}
use Rattle.content.proofs.Folding.{text-append}
use Rattle.values.specs.Coded.{sort_said}
use Rattle.values.specs.Write.{values_text}
use Rattle.conversion_theory.specs.Tree.{Property, forest_of}
use Rattle.conversion_theory.specs.Skeleton.{is_property, is_component, params_from, property_from, component_from}
use Rattle.conversion_theory.specs.Return.{is_unknown, is_default, shown, with_value, written_sort, written_line}
use Rattle.conversion_theory.specs.ToIcal.{begin_line, end_line, property_line, component_lines, forest_lines}
use Rattle.ical_properties.specs.PartPlaces.{PartsAt}
use Rattle.ical_properties.specs.Ruled.{Rules}
use Rattle.ical_properties.specs.declared.PropertyParts.{PropertyParts}
use Rattle.ical_properties.specs.declared.Ruling.{Ruling}
use Rattle.ical.specs.Writes.{value_param_text, head_text}
use Rattle.ical.proofs.Arrays.{component-array}
use Rattle.ical.proofs.PropertyTests.{octets_in, RuledAt, ruled-there}
use Rattle.ical.proofs.ComponentParts.{component-is, composed, subs-tag}
use Rattle.ical_skeleton.proofs.Parts.{first-is, second_is, third-is}

-- VALUE
pub hidden-kind : (t : List ℕ) → value_param_text false t ≡ []
unfolding value_param_text
hidden-kind t = refl

pub shown-kind : (t : List ℕ) → is_name t ≡ true → value_param_text true t ≡ (octets ";" ++ upper (octets "value") ++ octets "=") ++ upper t
unfolding value_param_text more_values
shown-kind t h = param-text (octets "value") (upper t) [] ∙ rw (name-text (upper t) (name-upper t h), append-nil (upper t))

with-value : (b : Bool) (t : List ℕ) (ps : List Param) → params_text (with_value (pick b none (some t)) ps) ≡ value_param_text (is_some (pick b none (some t))) t ++ params_text ps
unfolding with_value params_text value_param_text is_some
with-value true t ps = refl
with-value false t ps = refl

-- a property's line
pub line-is : (T : Table) (p : Property) {k : Ruling} → Rules (find T p.name) p.name p.type k
    → property_line T p ≡ upper p.name ++ (value_param_text k.shown p.type ++ (params_text p.params ++ (octets ":" ++ values_text (sort_said k.sort) p.values)))
unfolding property_line written_line line_text shown written_sort
line-is T p g =
    rw (g.shown, g.sort, with-value (is_unknown p.type or is_default (find T p.name) p.type) p.type p.params)
    (ap (λ l. upper p.name ++ l) (append_assoc (value_param_text _ p.type) (params_text p.params) _))

-- the pieces of a property's line, as they were read
pub head-is : (n : List ℕ) (b : Bool) (t : List ℕ) (ps : List Param) → upper n ++ (value_param_text b t ++ (params_text ps ++ octets ":")) ≡ head_text n b t ps
unfolding head_text
head-is n b t ps = refl

head-then : (n : List ℕ) (b : Bool) (t : List ℕ) (ps : List Param) (v : List ℕ) → head_text n b t ps ++ v ≡ upper n ++ (value_param_text b t ++ (params_text ps ++ (octets ":" ++ v)))
unfolding head_text
head-then n b t ps v =
    append_assoc (upper n) (value_param_text b t ++ (params_text ps ++ octets ":")) v
    ∙ ap (λ l. upper n ++ l) (append_assoc (value_param_text b t) (params_text ps ++ octets ":") v ∙ ap (λ l. value_param_text b t ++ l) (append_assoc (params_text ps) (octets ":") v))

pub line-there : (T : Table) {t : List ℕ} {i : ℕ} {p : PropertyParts} {k : Ruling} → is_property (value_at t i) ≡ true → PartsAt t i p → RuledAt T t p k
    → head_text (octets_in t p.name) k.shown (octets_in t p.kind) (params_from (members_at t p.params)) ++ values_text (sort_said k.sort) (list_at t p.values) ≡ property_line T (property_from (value_at t i))
line-there T {t} {i} {p} {k} h x g =
    let q = property_from (value_at t i) in
    rw (x.name.part, x.kind.part, x.params, x.values) (head-then q.name k.shown q.type q.params (values_text (sort_said k.sort) q.values) ∙ sym (line-is T q (ruled-there T h x g)))

-- lines of properties along the tape
module _ (T : Table) (t : List ℕ) (i : ℕ) where
  pub lines_end : tag_at t i ≡ tag_end → text_of (map (property_line T) (map property_from (list_at t i))) ≡ []
  unfolding text_of
  lines_end e = rw (list-end t i e)

  pub lines-on : {e : ℕ} → ((tag_at t i ≡ tag_end) → ⊥) → Next t i e
      → text_of (map (property_line T) (map property_from (list_at t i))) ≡ text_of (property_line T (property_from (value_at t i)) ∷ []) ++ text_of (map (property_line T) (map property_from (list_at t e)))
  lines-on {e} n y = rw (list-next y n) (text-append (property_line T (property_from (value_at t i)) ∷ []) (map (property_line T) (map property_from (list_at t e))))

-- lines of sub-components
abbrev pub sub_lines : Table → ℕ → List Json → List (List ℕ)
sub_lines T d js = forest_lines T (forest_of (map (component_from d) js))

sub-lines-none : (T : Table) (d : ℕ) → sub_lines T d [] ≡ []
unfolding component_lines forest_of
sub-lines-none T d = refl

sub-lines-more : (T : Table) (d : ℕ) (j : Json) (js : List Json) → sub_lines T d (j ∷ js) ≡ component_lines T (component_from d j) ++ sub_lines T d js
unfolding component_lines forest_of
sub-lines-more T d j js = refl

text-none : text_of [] ≡ []
unfolding text_of
text-none = refl

module _ (T : Table) (d : ℕ) (t : List ℕ) (i : ℕ) where
  pub sub-lines-end : tag_at t i ≡ tag_end → text_of (sub_lines T d (list_at t i)) ≡ []
  sub-lines-end e = ap (λ js. text_of (sub_lines T d js)) (list-end t i e) ∙ ap text_of (sub-lines-none T d) ∙ text-none

  pub sub-lines-on : {e : ℕ} → ((tag_at t i ≡ tag_end) → ⊥) → Next t i e
      → text_of (sub_lines T d (list_at t i)) ≡ text_of (component_lines T (component_from d (value_at t i))) ++ text_of (sub_lines T d (list_at t e))
  sub-lines-on {e} n y =
      ap (λ js. text_of (sub_lines T d js)) (list-next y n) ∙ ap text_of (sub-lines-more T d (value_at t i) (list_at t e))
      ∙ text-append (component_lines T (component_from d (value_at t i))) (sub_lines T d (list_at t e))

-- the lines of a component
pub lines_are : (T : Table) (d : ℕ) (j : Json) → ((d ≡ 0) → ⊥)
    → component_lines T (component_from d j) ≡ (begin_line (octets_of (element 0 j)) ∷ []) ++ (map (property_line T) (map property_from (elements (element 1 j)))
    ++ (sub_lines T (d - 1) (elements (element 2 j)) ++ end_line (octets_of (element 0 j)) ∷ []))
unfolding component_lines
lines_are T d j n = rw (component-is d j n)

-- by the places of its parts
pub component-lines : (T : Table) (d : ℕ) {t : List ℕ} {at a c i : ℕ} {n : Text} → is_component d (value_at t at) ≡ true → After t at a → TextAt t a n → Next t n.next c → After t c i
    → ((octets "BEGIN:" ++ upper (take (n.to - n.from) (drop n.from t))) ∷ [])
    ++ (map (property_line T) (map property_from (elements (value_at t n.next)))
    ++ (sub_lines T (d - 1) (list_at t i) ++ (octets "END:" ++ upper (take (n.to - n.from) (drop n.from t))) ∷ []))
    ≡ component_lines T (component_from d (value_at t at))
unfolding begin_line end_line
component-lines T d {t} {at} {a} {c} {i} {n} h x k z u =
    let q = component-array t at d h in
    let y = k.behind in
    sym (lines_are T d (value_at t at) (composed d (value_at t at) h).levels
    ∙ rw (first-is x q, second_is x q y, third-is x q y z, elements-inside u (subs-tag d h x y z), k.part))
