-- The newer's jCal and the jCal of a table whose rows it keeps, octet by octet.
use Prim.Native.Nat.{ℕ}
use Prim.Native.Char.{code}
use mathlib.Core.Path.{◌≡◌, ap, ◌∙◌}
use mathlib.Core.Bool.{true, false, not}
use mathlib.Core.List.{List, [], ◌∷◌, ◌++◌, map, append_assoc, append-nil}
use mathlib.Core.Option.{Option, none, some}
use borrow.Author.Tests.{not-true}
use Rattle.octets.specs.Basics.{octets, pick, ◌and◌, any}
use Rattle.octets.specs.Optional.{is_some}
use Rattle.octets.specs.Classes.{lower}
use Rattle.octets.specs.Answers.{accepted}
use Rattle.octets.proofs.Cases.{cases, never, both}
use Rattle.types.specs.Table.{Table, find}
use Rattle.json_text.specs.Tree.{Json, str, items_of}
use Rattle.json_text.specs.Print.{escaped, quoted, print_string, print, first_item, more_items, values_json}
use Rattle.content.specs.Line.{Param, Line}
use Rattle.content.specs.Parameters.{called, value_type, without_value}
use Rattle.values.proofs.Arrays.{items-json}
use Rattle.conversion_theory.specs.Tree.{Property, property, Component, Forest}
use Rattle.conversion_theory.specs.Property.{type_of, read_as, read_property}
use Rattle.conversion_theory.specs.Jcal.{property_json, jcal_of, jcals_of}
use Rattle.conversion_theory.specs.Claim.{excepted, as_unknown, params_read, property_text, Beside, ended, shared, differs}
use Rattle.conversion_theory.proofs.PropertyLaws.{Twice}
use Rattle.conversion_theory.proofs.PropertyReading.{read-line, read_as_lem}
use Rattle.conversion_theory.proofs.ValueParameter.{some-stated}
use Rattle.conversion_theory.proofs.Shapes.{Pairwise, no-pair, pair, Alike, alike, Alikes, no_more, one_more}
use Rattle.conversion_theory.proofs.Collected.{pairs-list, alike-list, alikes-list}

-- a property's text
property-printed : (l : Line) (ps : List Param) (type : List ℕ) (vs : List Json)
    → print (property_json (property (lower l.name) ps type vs)) ≡ property_text l ps (print_string type ++ values_json vs)
unfolding print property_json property_text
property-printed l ps type vs = rw (items-json vs, append_assoc (print_string type) (values_json vs) (octets "]"))

unknown-typed : (v : List ℕ) → print_string (octets "unknown") ++ values_json (str v ∷ []) ≡ octets "\"unknown\"," ++ print_string v
unfolding values_json print print_string quoted escaped
unknown-typed v = rw (append-nil (quoted v))

older-printed : (l : Line) → print (property_json (as_unknown l)) ≡ property_text l (without_value l.params) (octets "\"unknown\"," ++ print_string l.value)
unfolding as_unknown
older-printed l =
    property-printed l (without_value l.params) (octets "unknown") (str l.value ∷ []) ∙ ap (property_text l (without_value l.params)) (unknown-typed l.value)

module _ (a new : Table) where
  -- an excepted line has no VALUE
  excepted-silent : (l : Line) → excepted a new l ≡ true → any (called (octets "value")) l.params ≡ false
  unfolding excepted
  excepted-silent l e =
      let value = any (called (octets "value")) l.params in
      let listed = is_some (find new l.name) in
      not-true value (both listed (not value) (both (not (is_some (find a l.name))) (listed and not value) e).1).1

  -- the newer's property of such a line
  newer-printed : (l : Line) (p : Property) → excepted a new l ≡ true → read_property new l ≡ accepted p
      → print (property_json p) ≡ property_text l (params_read new l) (print_string p.type ++ values_json p.values)
  unfolding params_read
  newer-printed l p x e = let r = read-line new l p e in by r.type r.stated r.read
    where
      by : (type : Option (List ℕ)) → value_type l.params ≡ accepted type
          → read_as (find new l.name) (lower l.name) type (without_value l.params) l.value ≡ accepted p
          → print (property_json p) ≡ property_text l (params_read new l) (print_string p.type ++ values_json p.values)
      by none s r =
          let w = read_as_lem (find new l.name) (lower l.name) none (without_value l.params) l.value p r in
          rw (← w.whole) (property-printed l (params_read new l) (type_of (find new l.name) none) w.held)
      by (some t) s r = never (some-stated l.params t s) (excepted-silent l x)

  -- in front of texts that stand beside each other, x and y do so too, and differ at the properties of the lines ls
  record Along (ls : List Line) (x y : List ℕ) : Type 0 where
    before : (ks : List Line) (n o : List ℕ) → Beside a new ks n o → Beside a new (ls ++ ks) (x ++ n) (y ++ o)

  same-before : (t : List ℕ) {ks : List Line} {n o : List ℕ} → Beside a new ks n o → Beside a new ks (t ++ n) (t ++ o)
  same-before [] b = b
  same-before (x ∷ t) b = shared x (same-before t b)

  along-same : (t : List ℕ) → Along [] t t
  along-same t = record { before = λ ks n o b. same-before t b }

  along-append : {ls ks : List Line} {x y u v : List ℕ} → Along ls x y → Along ks u v → Along (ls ++ ks) (x ++ u) (y ++ v)
  along-append {ls} {ks} {x} {y} {u} {v} f g = record {
    before = λ js n o b. rw (append_assoc ls ks js, append_assoc x u n, append_assoc y v o) (f.before (ks ++ js) (u ++ n) (v ++ o) (g.before js n o b));
  }

  along-behind : (t : List ℕ) {ls : List Line} {x y : List ℕ} → Along ls x y → Along ls (t ++ x) (t ++ y)
  along-behind t f = along-append (along-same t) f

  along-ended : (t : List ℕ) {ls : List Line} {x y : List ℕ} → Along ls x y → Along ls (x ++ t) (y ++ t)
  along-ended t {ls} {x} {y} f = record {
    before = λ js n o b. rw (append_assoc x t n, append_assoc y t o) (f.before js (t ++ n) (t ++ o) (same-before t b));
  }

  -- the line of a property, where it is excepted
  abbrev pub excepted-line : (q p : Property) → Twice a new q p → List Line
  excepted-line q p t = pick (excepted a new t.line) (t.line ∷ []) []

  along-property : {q p : Property} (t : Twice a new q p) → Along (excepted-line q p t) (print (property_json p)) (print (property_json q))
  along-property {q} {p} t = cases (excepted a new t.line)
      (λ e. rw (e, older (rw e at t.seen), newer-printed t.line p e t.read) (record { before = λ ks n o b. differs t.line p e t.read b }))
      (λ e. rw (e, t.seen, e) (along-same (print (property_json p))))
    where
      older : q ≡ as_unknown t.line → print (property_json q) ≡ property_text t.line (without_value t.line.params) (octets "\"unknown\"," ++ print_string t.line.value)
      older e = ap (λ x. print (property_json x)) e ∙ older-printed t.line

  -- properties, as items of an array
  more-properties : {qs ps : List Property} (l : Pairwise (Twice a new) qs ps)
      → Along (pairs-list excepted-line l) (more_items (items_of (map property_json ps))) (more_items (items_of (map property_json qs)))
  unfolding pairs-list more_items items_of
  more-properties no-pair = along-same (octets "]")
  more-properties (pair t l) = along-behind (octets ",") (along-append (along-property t) (more-properties l))

  first-properties : {qs ps : List Property} (l : Pairwise (Twice a new) qs ps)
      → Along (pairs-list excepted-line l) (first_item (items_of (map property_json ps))) (first_item (items_of (map property_json qs)))
  unfolding pairs-list first_item items_of
  first-properties no-pair = along-same (octets "]")
  first-properties (pair t l) = along-append (along-property t) (more-properties l)

  -- components
  mutual
    unfolding jcal_of print alike-list

    along-component : {d c : Component} (h : Alike (Twice a new) d c) → Along (alike-list excepted-line h) (print (jcal_of c)) (print (jcal_of d))
    along-component (alike {n = n} l ps cs) =
        along-behind (code "[" ∷ print_string n) (along-behind (octets ",[") (along-append (first-properties ps) (along-behind (octets ",[") (along-ended (octets "]") (first-components cs)))))

    first-components : {ds cs : Forest} (h : Alikes (Twice a new) ds cs) → Along (alikes-list excepted-line h) (first_item (jcals_of cs)) (first_item (jcals_of ds))
    first-components no_more = along-same (octets "]")
    first-components (one_more c cs) = along-append (along-component c) (more-components cs)

    more-components : {ds cs : Forest} (h : Alikes (Twice a new) ds cs) → Along (alikes-list excepted-line h) (more_items (jcals_of cs)) (more_items (jcals_of ds))
    more-components no_more = along-same (octets "]")
    more-components (one_more c cs) = along-behind (octets ",") (along-append (along-component c) (more-components cs))

  -- THE LAW
  pub alongside : {d c : Component} (h : Alike (Twice a new) d c) → Beside a new (alike-list excepted-line h) (print (jcal_of c)) (print (jcal_of d))
  alongside {d} {c} h =
      rw (← append-nil (alike-list excepted-line h), ← append-nil (print (jcal_of c)), ← append-nil (print (jcal_of d))) ((along-component h).before [] [] [] ended)
