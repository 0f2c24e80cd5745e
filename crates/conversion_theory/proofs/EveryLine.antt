-- Every line of a text that is written to iCalendar is clean and one of `component_lines`: it is folded into physical lines that cut no character, and nothing of
-- a JSON text begins a line of its own (01, Lines and Errors that tempt).
use Prim.Native.Nat.{ℕ}
use mathlib.Core.Path.{◌≡◌, refl, sym, ap, subst, ◌∙◌}
use mathlib.Core.Bool.{true, not}
use mathlib.Core.List.{List, [], ◌∷◌, ◌++◌, map}
use lib.Dec.{leb}
use lib.ListN.{length}
use Rattle.octets.specs.Basics.{octets, pick, all, All}
use Rattle.octets.specs.Classes.{is_lower_name, text_octet}
use Rattle.octets.specs.Limits.{most_text}
use Rattle.octets.specs.Utf8.{utf8, clean}
use Rattle.octets.specs.Answers.{Answer, accepted, then, unless}
use Rattle.octets.proofs.Cases.{both, All-weaker, All-append, All-front, All-back}
use Rattle.octets.proofs.Answers.{not-accepted, accepted-same, then-accepted, unless-accepted}
use Rattle.types.specs.Table.{Table, find}
use Rattle.types.specs.Rows.{table_of}
use Rattle.json_text.specs.Tree.{Json}
use Rattle.json_text.specs.Reads.{Out, ok, deep, bad}
use Rattle.json_text.specs.Reader.{parse_text}
use Rattle.json_text.proofs.Decoding.{Decoded, parse-decoded}
use Rattle.content.specs.Line.{Param}
use Rattle.content.specs.Lines.{lines_of}
use Rattle.content.specs.Parameters.{called, is_encoded, may_return}
use Rattle.content.specs.Fold.{text_of}
use Rattle.content.specs.Physical.{Physical}
use Rattle.octets.proofs.Classes.{lower-name}
use Rattle.content.proofs.WrittenClean.{Texts, line_clean}
use Rattle.content.proofs.Unfolded.{Upright, line-upright, clean-lines-back}
use Rattle.content.proofs.Physical.{text-physical}
use Rattle.values.specs.Write.{values_are, values_text}
use Rattle.values.proofs.CleanValues.{values-clean}
use Rattle.conversion_theory.specs.Tree.{Property, Component, Forest, properties_of, properties_in}
use Rattle.conversion_theory.specs.Property.{many_of}
use Rattle.conversion_theory.specs.Return.{is_unknown, stated_type, encoding_fits, written_sort, taken_by, checked, shown, with_value, written_line}
use Rattle.conversion_theory.specs.Skeleton.{calendar_of}
use Rattle.conversion_theory.specs.ToIcal.{json_of, checked_all, begin_line, end_line, property_line, component_lines, forest_lines, written, to_ical}
use Rattle.conversion_theory.specs.Written.{LinesFit, Apart, LinesApart}
use Rattle.conversion_theory.proofs.Shapes.{Made, made, MadeIn, nothing-more, made_more}
use Rattle.conversion_theory.proofs.WrittenLines.{begin-tells, end-tells}
use Rattle.conversion_theory.proofs.Routes.{Passes}
use Rattle.conversion_theory.proofs.ValueParameter.{shown-stated, with-writable, with-texts}
use Rattle.conversion_theory.proofs.FromJcal.{PropertyFine, calendar-fine}

-- a clean line that does not begin with a space or tab
record Whole (l : List ℕ) : Type 0 where
  is-clean : clean l ≡ true
  upright : Upright l

-- the newline of a parameter, or of a value, is encoded or refused; what VALUE states is a name
params-texts : (ps : List Param) → All (λ (q : Param). all utf8 q.values ≡ true) ps → all may_return ps ≡ true → All Texts ps
unfolding all may_return
params-texts [] u h = tt
params-texts (p ∷ ps) u h =
    let b = both (may_return p) (all may_return ps) h in
    (record { utf = u.0; plain = (both (not (called (octets "value") p)) (all (all text_octet) p.values) b.0).1 }, params-texts ps u.1 b.1)

property-whole : (t : Table) (p : Property) → PropertyFine p → Passes t p → Whole (property_line t p)
unfolding property_line written_line checked
property-whole t p k c =
    let row = find t p.name in
    let last : Unit {0} → Answer Property = λ _. pick (is_unknown p.type) (taken_by row p) (accepted p) in
    let nine : Unit {0} → Answer Property = λ _. unless 9 (values_are (many_of row) (written_sort p) p.values) last in
    let eight : Unit {0} → Answer Property = λ _. unless 8 (encoding_fits row (stated_type p.type) (is_encoded p.params)) nine in
    let u = unless-accepted 7 (all may_return p.params) eight c.0 c.1 in
    let v = unless-accepted 8 (encoding_fits row (stated_type p.type) (is_encoded p.params)) nine c.0 u.1 in
    let w = unless-accepted 9 (values_are (many_of row) (written_sort p) p.values) last c.0 v.1 in
    let n = lower-name p.name k.name in
    let type = shown row p.type in
    let text = values_text (written_sort p) p.values in
    record {
      is-clean = line_clean p.name (with_value type p.params) text n (with-writable type p.params k.writable)
          (with-texts type p.params (shown-stated row p.type k.type) (params-texts p.params k.utf u.0)) (values-clean (many_of row) (written_sort p) p.values k.values w.0);
      upright = line-upright p.name (with_value type p.params) text n;
    }

-- the lines of a component whose properties are fine and pass
module _ (t : Table) where
  begin-whole : (n : List ℕ) → is_lower_name n ≡ true → Whole (begin_line n)
  begin-whole n h = let b = begin-tells t n h in record { is-clean = b.is-clean; upright = b.upright }

  end_whole : (n : List ℕ) → is_lower_name n ≡ true → Whole (end_line n)
  end_whole n h = let b = end-tells t n h in record { is-clean = b.is-clean; upright = b.upright }

  properties-whole : (ps : List Property) → All PropertyFine ps → All (Passes t) ps → All Whole (map (property_line t) ps)
  properties-whole [] k c = tt
  properties-whole (p ∷ ps) k c = (property-whole t p k.0 c.0, properties-whole ps k.1 c.1)

  mutual
    unfolding component_lines properties_of

    lines-whole : {c : Component} → Made PropertyFine c → All (Passes t) (properties_of c) → All Whole (component_lines t c)
    lines-whole (made {n} {ps} {cs} h k m) a = (
      begin-whole n h,
      All-append Whole (map (property_line t) ps) (forest_lines t cs ++ end_line n ∷ []) (properties-whole ps k (All-front (Passes t) ps (properties_in cs) a))
          (All-append Whole (forest_lines t cs) (end_line n ∷ []) (lines-in-whole m (All-back (Passes t) ps (properties_in cs) a)) (end_whole n h, tt)),
    )

    lines-in-whole : {cs : Forest} → MadeIn PropertyFine cs → All (Passes t) (properties_in cs) → All Whole (forest_lines t cs)
    lines-in-whole nothing-more a = tt
    lines-in-whole (made_more {c} {cs} m ms) a =
        All-append Whole (component_lines t c) (forest_lines t cs) (lines-whole m (All-front (Passes t) (properties_of c) (properties_in cs) a))
        (lines-in-whole ms (All-back (Passes t) (properties_of c) (properties_in cs) a))

  all-passed : (ps : List Property) (u : Unit {0}) → checked_all t ps ≡ accepted u → All (Passes t) ps
  unfolding checked_all
  all-passed [] u e = tt
  all-passed (p ∷ ps) u e = then-accepted (checked (find t p.name) p) (λ _. checked_all t ps) u e (λ q h k. ((q, h), all-passed ps u k))

-- such lines come back from the text that is written
whole-clean : (ls : List (List ℕ)) → All Whole ls → All (λ l. clean l ≡ true) ls
whole-clean ls h = All-weaker (λ l (k : Whole l). k.is-clean) ls h

whole_back : (ls : List (List ℕ)) → All Whole ls → lines_of (text_of ls) ≡ ls
whole_back ls h = clean-lines-back ls (whole-clean ls h) (All-weaker (λ l (k : Whole l). k.upright) ls h)

-- what is parsed of UTF-8
json-decoded : (text : List ℕ) → utf8 text ≡ true → (o : Out Json) → parse_text text ≡ o → (j : Json) → json_of o ≡ accepted j → Decoded j
unfolding json_of
json-decoded text u (ok k s) q j e = rw (← accepted-same e) (parse-decoded text s k u q)
json-decoded text u deep q j e = not-accepted e
json-decoded text u bad q j e = not-accepted e

-- THE LAWS
record Lined (rows text out : List ℕ) : Type 0 where
  apart : Apart rows text out
  whole : All Whole (component_lines apart.table apart.from)

lined : (rows text out : List ℕ) → to_ical rows text ≡ accepted out → Lined rows text out
unfolding to_ical written
lined rows text out e =
    let write : Table → Component → Answer (List ℕ) = λ t c. then (checked_all t (properties_of c)) (λ _. accepted (text_of (component_lines t c))) in
    let read : Table → Json → Answer (List ℕ) = λ t j. then (calendar_of j) (write t) in
    let parse : Table → Answer (List ℕ) = λ t. unless 3 (utf8 text) (λ _. then (json_of (parse_text text)) (read t)) in
    let a = unless-accepted 1 (leb (length text) most_text) (λ _. then (table_of rows) parse) out e in
    then-accepted (table_of rows) parse out a.1 (λ t et r.
    let b = unless-accepted 3 (utf8 text) (λ _. then (json_of (parse_text text)) (read t)) out r in
    then-accepted (json_of (parse_text text)) (read t) out b.1 (λ j ej s.
    then-accepted (calendar_of j) (write t) out s (λ c ec w.
    then-accepted (checked_all t (properties_of c)) (λ _. accepted (text_of (component_lines t c))) out w (λ u eu x.
    let q = accepted-same x in
    let h = lines-whole t (calendar-fine j c (json-decoded text b.0 (parse_text text) refl j ej) ec) (all-passed t (properties_of c) u eu) in
    record {
      apart = record { table = t; tabled = et; json = j; parsed = ej; from = c; held = ec; folded = q; lines = ap lines_of (sym q) ∙ whole_back (component_lines t c) h };
      whole = h;
    }))))

pub lines-apart : LinesApart
lines-apart rows text out e = (lined rows text out e).apart

pub lines_fit : LinesFit
lines_fit rows text out e =
    let l = lined rows text out e in
    let ls = component_lines l.apart.table l.apart.from in
    subst Physical l.apart.folded (text-physical ls (whole-clean ls l.whole))
