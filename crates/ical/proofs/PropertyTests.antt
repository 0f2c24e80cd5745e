-- Properties tested for 7, 8 and 9 by what their ruling says.
use Prim.Native.Nat.{ℕ, ◌-◌, ◌≤◌}
use mathlib.Core.Path.{◌≡◌, refl, sym, ap, ◌∙◌}
use mathlib.Core.Bool.{Bool, true, false, not}
use mathlib.Core.List.{List, [], ◌∷◌, ◌++◌, map}
use mathlib.Core.Logic.{inl}
use mathlib.Core.Option.{Option, none, some}
use native.Mathlib.Omega.{arith}
use lib.ListN.{length, take, drop}
use borrow.Author.Tests.{eq-eqb}
use lib.Dec.{leb}
use Rattle.octets.specs.Basics.{octets, pick, ◌and◌, ◌or◌, all, same, filled}
use Rattle.std.specs.declared.option.Option as code
use Rattle.std.specs.Prelude.{Some, None}
use Rattle.octets.specs.Optional.{is_some, holds, map?, then?}
use Rattle.octets.specs.Classes.{lower_name_octet, is_lower_name, lower, is_name}
use Rattle.octets.specs.Answers.{Answer, refused, accepted, then, or_else, unless}
use Rattle.octets.proofs.Answers.{not-accepted}
use Rattle.octets.proofs.Cases.{same?, never, both, and-true-right, and-false-right}
use Rattle.octets.proofs.Classes.{lower-name, lower-name-stays}
use Rattle.types.specs.Table.{Row, Table, find}
use Rattle.json_text.specs.Tree.{Json, string?, array?, object?, list_of_items, octets_of, elements, element}
use Rattle.json_text.specs.Tape.{tag_end}
use Rattle.tape.specs.Decode.{other_items, tag_at, value_at, items_at, list_at, members_at}
use Rattle.tape.specs.Promise.{Next, Left}
use Rattle.tape.specs.declared.Text.{Text}
use Rattle.tape.proofs.Values.{list-end, list-first, list-next, no_text}
use Rattle.tape.proofs.Walks.{next-group}
use Rattle.content.specs.Folding.{FoldPen}
use Rattle.content.specs.Parameters.{is_encoded, may_return}
use Rattle.content.specs.declared.fold.Folder.{Folder}
use Rattle.values.specs.Sorts.{Sort, sort_of}
use Rattle.values.specs.Base64.{binary_fits, is_decoded, text_sent}
use Rattle.values.specs.Decoding.{DecodedAs}
use Rattle.std.specs.Prelude.{Some, None}
use Rattle.std.specs.declared.option.Option as code
use Rattle.values.specs.Coded.{sort_said}
use Rattle.values.specs.declared.sorts.Sort.{Sort as SortCode}
use Rattle.values.specs.Read.{values_of}
use Rattle.values.specs.Write.{values_are}
use Rattle.values.proofs.Decoded.{told-some, told-none}
use Rattle.jcal_values.specs.Attempts.{values_read}
use Rattle.ical_recur.specs.Room.{has_room}
use Rattle.ical_recur.proofs.Room.{room}
use Rattle.ical_values.specs.Valued.{ValuedAs}
use Rattle.conversion_theory.specs.Tree.{Property}
use Rattle.conversion_theory.specs.Property.{code_of, many_of, decodes_in, values_sent, read_as}
use Rattle.conversion_theory.specs.Skeleton.{are_parameters, is_property_name, is_property, params_from, property_from}
use Rattle.conversion_theory.specs.Return.{is_unknown, stated_type, encoding_fits, written_sort, first_octets, taken_by, checked}
use Rattle.conversion_theory.specs.ToIcal.{checked_all}
use Rattle.conversion_theory.proofs.FromJcal.{string-is}
use Rattle.ical_properties.specs.PartPlaces.{InGroup, PartsAt}
use Rattle.ical_properties.specs.declared.PropertyParts.{PropertyParts}
use Rattle.ical_properties.specs.Ruled.{Rules, fits_by}
use Rattle.ical_properties.specs.declared.Ruling.{Ruling}
use Rattle.ical_properties.proofs.RowAnswers.{fits-ruled}
use Rattle.ical.specs.Writes.{is_taken, standing, ValuesWritten}
use Rattle.ical.specs.Converts.{checked_in}
use Rattle.ical.proofs.Arrays.{property-array}

-- a string's test is passed by its octets
-- the name and the type of a property are in lowercase
module _ (j : Json) (h : is_property j ≡ true) where
  parts : (is_some (array? j) ≡ true)
      × ((holds is_property_name (string? (element 0 j)) and (holds are_parameters (object? (element 1 j)) and (holds is_lower_name (string? (element 2 j)) and leb 4 (length (elements j))))) ≡ true)
  unfolding is_property
  parts = both (is_some (array? j)) (holds is_property_name (string? (element 0 j)) and (holds are_parameters (object? (element 1 j)) and (holds is_lower_name (string? (element 2 j)) and leb 4 (length (elements j))))) h

  pub name-lower : is_lower_name (property_from j).name ≡ true
  unfolding property_from is_property_name
  name-lower =
      let a = (both (holds is_property_name (string? (element 0 j))) (holds are_parameters (object? (element 1 j)) and (holds is_lower_name (string? (element 2 j)) and leb 4 (length (elements j)))) parts.1).0 in
      let n = octets_of (element 0 j) in
      (both (is_lower_name n) (not (same n (octets "begin")) and not (same n (octets "end"))) (string-is is_property_name (element 0 j) a)).0

  pub type-lower : is_lower_name (property_from j).type ≡ true
  unfolding property_from
  type-lower =
      let a = (both (holds is_property_name (string? (element 0 j))) (holds are_parameters (object? (element 1 j)) and (holds is_lower_name (string? (element 2 j)) and leb 4 (length (elements j)))) parts.1).1 in
      let b = (both (holds are_parameters (object? (element 1 j))) (holds is_lower_name (string? (element 2 j)) and leb 4 (length (elements j))) a).1 in
      string-is is_lower_name (element 2 j) (both (holds is_lower_name (string? (element 2 j))) (leb 4 (length (elements j))) b).0

pub stays-lower : (s : List ℕ) → is_lower_name s ≡ true → lower s ≡ s
unfolding is_lower_name
stays-lower s h = lower-name-stays s (both (filled s) (all lower_name_octet s) h).1

-- the first value
first-is : (j : Json) (js : List Json) → first_octets (j ∷ js) ≡ octets_of j
unfolding first_octets
first-is j js = refl

pub first-octets : (t : List ℕ) (i : ℕ) → octets_of (value_at t i) ≡ first_octets (list_at t i)
unfolding first_octets
first-octets t i = same? (tag_at t i) tag_end
    (λ e. rw (list-end t i e) (no_text t i (λ f. omega arith) (λ f. omega arith)))
    (λ q. sym (ap first_octets (list-first t i (λ e. never (eq-eqb (tag_at t i) tag_end e) q)) ∙ first-is (value_at t i) (list_of_items (other_items (items_at t i)))))

-- whether a value is what its name takes, as received or decoded
module _ (s : SortCode) (n : List ℕ) (c : ℕ) (m encoded : Bool) {raw got : List ℕ} {d : Bool} (e : sort_said s ≡ sort_of n c) (f : got ≡ raw) (g : d ≡ is_decoded c encoded) where
  pub taken-by-sort : d ≡ false → is_some (values_read m (sort_said s) got) ≡ is_some (values_sent (is_decoded c encoded) n c m raw)
  unfolding values_sent text_sent then? values_of
  taken-by-sort h = rw (e, f, sym g ∙ h)

  pub taken-by-decoding : d ≡ true → is_some (then? (text_sent true got) (values_read m (sort_said s))) ≡ is_some (values_sent (is_decoded c encoded) n c m raw)
  unfolding values_sent values_of
  taken-by-decoding h = rw (e, f, sym g ∙ h)

-- the values in what is decoded, where there is room for it
module _ (o : Option (List ℕ)) (room : Bool) (out : List ℕ) (r : code.Option ℕ) (d : DecodedAs room o out r) (k : Sort) (m : Bool) where
  pub decoded-taken : {n : ℕ} → r ≡ Some n → is_some (values_read m k (take (n - 0) (drop 0 out))) ≡ is_some (then? o (values_read m k))
  unfolding then?
  decoded-taken {n} z = let e : n - 0 ≡ n = omega arith in rw (e, (told-some room o out r d n z).1)

  pub none-taken : room ≡ true → r ≡ None → false ≡ is_some (then? o (values_read m k))
  unfolding then? is_some
  none-taken h z = rw (told-none room o out r d h z)

-- the values of a ruling, where there is room for them
module _ (k : Ruling) (n : List ℕ) (encoded : Bool) where
  pub not_taken : (vs : List Json) {b : Bool} → b ≡ is_taken k n encoded vs → b ≡ false → standing k n encoded vs ≡ false
  unfolding standing
  not_taken vs e f = rw (sym e ∙ f) (and-false-right (values_are k.many (sort_said k.sort) vs))

  is-standing : (vs : List Json) {b x : Bool} → b ≡ is_taken k n encoded vs → b ≡ true → values_are k.many (sort_said k.sort) vs ≡ x → standing k n encoded vs ≡ x
  unfolding standing
  is-standing vs e f g = rw (sym e ∙ f, g) (and-true-right _)

  pub stood : (t s : List ℕ) (i : ℕ) (f : FoldPen) (out : List ℕ) {b : Bool} (r : code.Option (ℕ × Folder)) → b ≡ is_taken k n encoded (list_at t i) → b ≡ true
      → length t ≤ length s → ValuedAs (has_room t s) k.many (sort_said k.sort) t i f out r → ValuesWritten k n encoded t i f out r
  stood t s i f out (Some r) g h l v = (is-standing (list_at t i) g h (rw (room t s l) at v.0), v.1, v.2)
  stood t s i f out None g h l v = (is-standing (list_at t i) g h (rw (room t s l) at v.0), v.1)

-- nothing stands against it
abbrev pub ok : Answer (Unit {0})
ok = accepted tt

-- a stage that accepts something, or nothing
unit-accepted : {A : Type 0} (x : Answer A) (y : Answer (Unit {0})) → then x (λ _. ok) ≡ ok → then x (λ _. y) ≡ y
unfolding then
unit-accepted (refused n) y e = not-accepted e
unit-accepted (accepted a) y e = refl

unit-refused : {A : Type 0} (x : Answer A) (y : Answer (Unit {0})) (n : ℕ) → then x (λ _. ok) ≡ refused n → then x (λ _. y) ≡ refused n
unfolding then
unit-refused (refused m) y n e = e
unit-refused (accepted a) y n e = not-accepted (sym e)

option-unit : {A B : Type 0} (f : A → B) (n : ℕ) (o : Option A) → then (or_else n (map? f o)) (λ _. ok) ≡ unless n (is_some o) (λ _. ok)
unfolding then or_else map? unless is_some
option-unit f n none = refl
option-unit f n (some a) = refl

module _ (p : Property) where
  abbrev takes : Option Row → Bool
  takes row = not (is_unknown p.type and is_some row)
      or is_some (values_sent (is_decoded (code_of row (stated_type p.type)) (is_encoded p.params)) p.name (code_of row (stated_type p.type)) (many_of row) (first_octets p.values))

  abbrev fits : Option Row → Bool
  fits row = encoding_fits row (stated_type p.type) (is_encoded p.params)

  taken-by : (r : Row) → encoding_fits (some r) none (is_encoded p.params) ≡ true
      → then (taken_by (some r) p) (λ _. ok) ≡ unless 9 (is_some (values_sent (decodes_in (some r) none p.params) p.name (code_of (some r) none) (many_of (some r)) (first_octets p.values))) (λ _. ok)
  unfolding taken_by read_as unless encoding_fits
  taken-by r h = rw (both (binary_fits (code_of (some r) none) (is_encoded p.params)) _ h).0
      (option-unit _ 9 (values_sent (decodes_in (some r) none p.params) p.name (code_of (some r) none) (many_of (some r)) (first_octets p.values)))

  taken-answer : (row : Option Row) (u : Bool) → is_unknown p.type ≡ u → fits row ≡ true
      → then (pick (is_unknown p.type) (taken_by row p) (accepted p)) (λ _. ok) ≡ unless 9 (takes row) (λ _. ok)
  unfolding then unless taken_by is_some stated_type decodes_in
  taken-answer row false u e = rw u
  taken-answer none true u e = rw u
  taken-answer (some r) true u e = let k = rw u at e in rw u (taken-by r k)

  values-answer : (row : Option Row) (b : Bool) → values_are (many_of row) (written_sort p) p.values ≡ b → fits row ≡ true
      → then (unless 9 (values_are (many_of row) (written_sort p) p.values) (λ _. pick (is_unknown p.type) (taken_by row p) (accepted p))) (λ _. ok)
      ≡ unless 9 (values_are (many_of row) (written_sort p) p.values and takes row) (λ _. ok)
  unfolding then unless
  values-answer row true v e = rw v (taken-answer row (is_unknown p.type) refl e)
  values-answer row false v e = rw v

-- the answers of a property, by number
module _ (T : Table) (p : Property) where
  pub faulty-7 : all may_return p.params ≡ false → checked_in T p ≡ refused 7
  unfolding checked_in checked unless then
  faulty-7 h = rw h

  module _ (a : all may_return p.params ≡ true) {k : Ruling} (g : Rules (find T p.name) p.name p.type k) where
    abbrev fitting : Bool
    fitting = fits_by k.code k.taken (is_encoded p.params)

    fits-by : {b : Bool} → fitting ≡ b → fits p (find T p.name) ≡ b
    fits-by e = sym (fits-ruled g (is_encoded p.params)) ∙ e

    pub faulty-8 : fitting ≡ false → checked_in T p ≡ refused 8
    unfolding checked_in checked unless then
    faulty-8 h = rw (a, fits-by h)

    first-passed : fitting ≡ true
        → checked_in T p ≡ then (unless 9 (values_are (many_of (find T p.name)) (written_sort p) p.values) (λ _. pick (is_unknown p.type) (taken_by (find T p.name) p) (accepted p))) (λ _. ok)
    unfolding checked_in checked unless
    first-passed h = rw (a, fits-by h)

    stands-9 : fitting ≡ true → checked_in T p ≡ unless 9 (standing k p.name (is_encoded p.params) p.values) (λ _. ok)
    unfolding written_sort standing
    stands-9 h = rw (g.many, g.sort, g.taken, g.code) (first-passed h ∙ values-answer p (find T p.name) (values_are (many_of (find T p.name)) (written_sort p) p.values) refl (fits-by h))

    pub faulty-9 : fitting ≡ true → standing k p.name (is_encoded p.params) p.values ≡ false → checked_in T p ≡ refused 9
    unfolding unless
    faulty-9 h e = stands-9 h ∙ rw e

    pub faultless : fitting ≡ true → standing k p.name (is_encoded p.params) p.values ≡ true → checked_in T p ≡ ok
    unfolding unless
    faultless h e = stands-9 h ∙ rw e

-- the octets of a text on a tape, and the ruling of a property by its parts there
abbrev pub octets_in : List ℕ → Text → List ℕ
octets_in t x = take (x.to - x.from) (drop x.from t)

abbrev pub RuledAt : Table → List ℕ → PropertyParts → Ruling → Type 0
RuledAt T t p k = Rules (find T (octets_in t p.name)) (lower (octets_in t p.name)) (lower (octets_in t p.kind)) k

-- the ruling of a property in lowercase
pub ruled-as : (T : Table) {n t : List ℕ} {k : Ruling} (j : Json) → is_property j ≡ true → n ≡ (property_from j).name → t ≡ (property_from j).type → Rules (find T n) (lower n) (lower t) k
    → Rules (find T (property_from j).name) (property_from j).name (property_from j).type k
ruled-as T j h e f g = rw (e, f, stays-lower _ (name-lower j h), stays-lower _ (type-lower j h)) at g

-- the values of a property in lowercase
pub as-stood : (k : Ruling) (j : Json) → is_property j ≡ true → {n : List ℕ} {u : Bool} {l : List Json} {b : Bool} → n ≡ (property_from j).name → u ≡ is_encoded (property_from j).params
    → l ≡ (property_from j).values → standing k (lower n) u l ≡ b → standing k (property_from j).name (is_encoded (property_from j).params) (property_from j).values ≡ b
as-stood k j h e u f g = rw (e, u, f, stays-lower _ (name-lower j h)) at g

pub kind-name : (j : Json) → is_property j ≡ true → {t : List ℕ} → t ≡ (property_from j).type → is_name t ≡ true
kind-name j h e = rw e (lower-name _ (type-lower j h))

-- several properties
pub checked-none : (T : Table) → checked_all T [] ≡ ok
unfolding checked_all
checked-none T = refl

module _ (T : Table) (p : Property) (ps : List Property) where
  pub checked-on : checked_in T p ≡ ok → checked_all T (p ∷ ps) ≡ checked_all T ps
  unfolding checked_all checked_in
  checked-on h = unit-accepted (checked (find T p.name) p) (checked_all T ps) h

  pub checked-off : {n : ℕ} → checked_in T p ≡ refused n → checked_all T (p ∷ ps) ≡ refused n
  unfolding checked_all checked_in
  checked-off {n} h = unit-refused (checked (find T p.name) p) (checked_all T ps) n h

then-assoc : {A : Type 0} (x : Answer A) (y z : Answer (Unit {0})) → then (then x (λ _. y)) (λ _. z) ≡ then x (λ _. then y (λ _. z))
unfolding then
then-assoc (refused n) y z = refl
then-assoc (accepted a) y z = refl

pub checked-append : (T : Table) (ps qs : List Property) → checked_all T (ps ++ qs) ≡ then (checked_all T ps) (λ _. checked_all T qs)
unfolding checked_all then
checked-append T [] qs = refl
checked-append T (p ∷ ps) qs = rw (checked-append T ps qs) (sym (then-assoc (checked (find T p.name) p) (checked_all T ps) (checked_all T qs)))

module _ (T : Table) (ps qs : List Property) where
  pub both-checked : checked_all T ps ≡ ok → checked_all T (ps ++ qs) ≡ checked_all T qs
  unfolding then
  both-checked h = checked-append T ps qs ∙ rw h

  pub first-refused : {n : ℕ} → checked_all T ps ≡ refused n → checked_all T (ps ++ qs) ≡ refused n
  unfolding then
  first-refused h = checked-append T ps qs ∙ rw h

-- along the tape
module _ (T : Table) (t : List ℕ) (i : ℕ) where
  pub properties-end : tag_at t i ≡ tag_end → checked_all T (map property_from (list_at t i)) ≡ ok
  properties-end e = rw (list-end t i e) (checked-none T)

  module _ (n : (tag_at t i ≡ tag_end) → ⊥) where
    pub properties-on : {e : ℕ} → Next t i e → checked_in T (property_from (value_at t i)) ≡ ok → checked_all T (map property_from (list_at t i)) ≡ checked_all T (map property_from (list_at t e))
    properties-on {e} y h = rw (list-next y n) (checked-on T (property_from (value_at t i)) (map property_from (list_at t e)) h)

    pub properties-off : {m : ℕ} → checked_in T (property_from (value_at t i)) ≡ refused m → checked_all T (map property_from (list_at t i)) ≡ refused m
    properties-off h = rw (list-first t i n) (checked-off T (property_from (value_at t i)) _ h)

-- the property at i of a tape, by its parts
module _ (T : Table) {t : List ℕ} {i : ℕ} {p : PropertyParts} (h : is_property (value_at t i) ≡ true) (x : PartsAt t i p) where
  abbrev answered : Answer (Unit {0})
  answered = checked_in T (property_from (value_at t i))

  pub refused-7 : {a : Bool} → a ≡ all may_return (params_from (members_at t p.params)) → a ≡ false → answered ≡ refused 7
  refused-7 e f = faulty-7 T _ (ap (all may_return) (sym x.params) ∙ sym e ∙ f)

  module _ {k : Ruling} (g : RuledAt T t p k) where
    pub ruled-there : Rules (find T (property_from (value_at t i)).name) (property_from (value_at t i)).name (property_from (value_at t i)).type k
    ruled-there = ruled-as T (value_at t i) h x.name.part x.kind.part g

  module _ {a : Bool} (e : a ≡ all may_return (params_from (members_at t p.params))) (f : a ≡ true) {k : Ruling} (g : RuledAt T t p k)
      {b : Bool} (u : b ≡ is_encoded (params_from (members_at t p.params))) {c : Bool} (v : c ≡ fits_by k.code k.taken b) where
    may : all may_return (property_from (value_at t i)).params ≡ true
    may = ap (all may_return) (sym x.params) ∙ sym e ∙ f

    encodes : b ≡ is_encoded (property_from (value_at t i)).params
    encodes = u ∙ ap is_encoded x.params

    fits-there : {r : Bool} → c ≡ r → fits_by k.code k.taken (is_encoded (property_from (value_at t i)).params) ≡ r
    fits-there z = ap (fits_by k.code k.taken) (sym encodes) ∙ sym v ∙ z

    pub refused-8 : c ≡ false → answered ≡ refused 8
    refused-8 z = faulty-8 T _ may (ruled-there g) (fits-there z)

    module _ (z : c ≡ true) where
      pub refused-9 : standing k (lower (octets_in t p.name)) b (list_at t p.values) ≡ false → answered ≡ refused 9
      refused-9 s = faulty-9 T _ may (ruled-there g) (fits-there z) (as-stood k (value_at t i) h x.name.part encodes x.values s)

      pub passed : standing k (lower (octets_in t p.name)) b (list_at t p.values) ≡ true → answered ≡ ok
      passed s = faultless T _ may (ruled-there g) (fits-there z) (as-stood k (value_at t i) h x.name.part encodes x.values s)

-- behind a property, from its values on
pub behind-values : {t : List ℕ} {i v e : ℕ} → is_property (value_at t i) ≡ true → InGroup t i v → Left t v e → Next t i e
behind-values {t} {i} {v} {e} h w l =
    let q = property-array t i h in
    next-group t i e (inl q) (record { is = l.is ∙ w.is q; low = λ _. omega (arith, w.low q, l.low w.high); high = l.high })
