-- The law of a line and the laws of a property, for all tables: whichever table holds a property and whichever writes it, if the newer keeps the rows of both, jCal
-- says the property, and the newer reads from the line written what it read before.
use Prim.Native.Nat.{ℕ}
use mathlib.Core.Path.{◌≡◌, refl, sym, ap, ◌∙◌}
use mathlib.Core.Bool.{true, false}
use mathlib.Core.List.{List}
use mathlib.Core.Option.{Option, none, some}
use native.Mathlib.Omega.{arith}
use borrow.Author.Tests.{not-true}
use Rattle.octets.specs.Basics.{octets, pick, All}
use Rattle.octets.specs.Classes.{is_name, upper, lower, same_name}
use Rattle.octets.specs.Answers.{accepted}
use Rattle.octets.proofs.Cases.{cases}
use Rattle.octets.proofs.Classes.{name-lower, lower-name, upper-twice, upper-lower, lower-upper, lower-twice}
use Rattle.octets.proofs.Answers.{accepted-same}
use Rattle.types.specs.Table.{Row, Table, find}
use Rattle.types.specs.Rows.{Keeps}
use Rattle.types.proofs.Tables.{Well-formed, found-code, kept-or-none, found-lower, found-upper}
use Rattle.content.specs.Line.{Param, Line, line_of}
use Rattle.content.specs.Parameters.{called, name_twice, value_type, without_value}
use Rattle.content.specs.Write.{line_text}
use Rattle.content.proofs.Written.{Writable, line-back}
use Rattle.content.proofs.WrittenForm.{line-formed}
use Rattle.content.proofs.WrittenClean.{Texts, line_clean}
use Rattle.content.proofs.Unfolded.{line-upright}
use Rattle.content.proofs.LineParts.{line-parts}
use Rattle.values.specs.Write.{values_text}
use Rattle.conversion_theory.specs.Tree.{Property}
use Rattle.conversion_theory.specs.Structure.{Event, begins, ends, carries, stray, bounds, event_of}
use Rattle.conversion_theory.specs.Property.{read_as, read_property}
use Rattle.conversion_theory.specs.Return.{written_sort, shown, with_value, written_line}
use Rattle.conversion_theory.specs.ToIcal.{property_line}
use Rattle.conversion_theory.proofs.PropertyLaws.{LineLaw, Twice, Told, Returned, Carried}
use Rattle.conversion_theory.proofs.Decoded.{staying-All, staying-once}
use Rattle.conversion_theory.proofs.PropertyReading.{read-line, line_read_lem}
use Rattle.conversion_theory.proofs.ValueParameter.{value-states, Silent, without-silent, without-All, without-once, StatedIf, with-type, with-without, with-once, with-writable, with-texts, params-return}
use Rattle.conversion_theory.proofs.PropertyByRow.{Below, Typed, way, Passage, passage}
use Rattle.conversion_theory.proofs.PropertyJson.{property-name, property-told}

-- a line that is neither BEGIN nor END
module _ (l : Line) where
  bound-event : (b : Event Line) → pick (bounds l) b stray ≡ carries l → (b ≡ carries l → ⊥) → ⊥
  bound-event b e n = cases (bounds l) (λ y. n (rw y at e)) (λ y. other (rw y at e))
    where
      other : stray ≡ carries l → ⊥
      other e = let z : ◌≡◌ {A = ℕ} 0 1 = cc in omega arith

  no-begin : event_of l ≡ carries l → same_name l.name (octets "BEGIN") ≡ false
  unfolding event_of
  no-begin e = cases (same_name l.name (octets "BEGIN"))
      (λ b. absurd (bound-event (begins (lower l.value)) (rw b at e) other))
      (λ b. b)
    where
      other : begins (lower l.value) ≡ carries l → ⊥
      other e = let z : ◌≡◌ {A = ℕ} 0 1 = cc in omega arith

  no_end : event_of l ≡ carries l → same_name l.name (octets "END") ≡ false
  unfolding event_of
  no_end e = cases (same_name l.name (octets "END"))
      (λ b. absurd (bound-event (ends (lower l.value)) (rw (no-begin e, b) at e) other))
      (λ b. b)
    where
      other : ends (lower l.value) ≡ carries l → ⊥
      other e = let z : ◌≡◌ {A = ℕ} 0 1 = cc in omega arith

  is-event : same_name l.name (octets "BEGIN") ≡ false → same_name l.name (octets "END") ≡ false → event_of l ≡ carries l
  unfolding event_of
  is-event b e = rw (b, e)

pub line-law : LineLaw
line-law s c f e =
    let p = line-parts s c f in
    record { named = p.named; no-begin = no-begin (line_of s) e; no_end = no_end (line_of s) e; writable = p.writable; texts = p.texts; value = p.value }

-- a line that is written, by its parts
abbrev again : List ℕ → Option (List ℕ) → List Param → List ℕ → Line
again name v ps x = record { name = upper (lower name); params = with_value v ps; value = x }

name-again : (name word : List ℕ) → same_name (upper (lower name)) word ≡ same_name name word
unfolding same_name
name-again name word = rw (upper-twice (lower name), upper-lower name)

read_again : (t : Table) (name : List ℕ) (v : Option (List ℕ)) (ps : List Param) (x : List ℕ) (p : Property) → StatedIf v → Silent ps → name_twice ps ≡ false
    → read_as (find t name) (lower name) v ps x ≡ accepted p → read_property t (again name v ps x) ≡ accepted p
read_again t name v ps x p s q o e =
    line_read_lem t (again name v ps x) v (rw (with-once ps q v o)) (with-type ps q v s)
    ∙ rw (found-upper t (lower name), found-lower t name, lower-upper (lower name), lower-twice name, with-without ps q v) e

-- what VALUE states
stated-if : (ps : List Param) (v : Option (List ℕ)) → value_type ps ≡ accepted v → StatedIf v
stated-if ps none e = tt
stated-if ps (some t) e = value-states ps t e

-- one property
module _ (a b new : Table) (below-a : (n : List ℕ) → Below (find new n) (find a n)) (below-b : (n : List ℕ) → Below (find new n) (find b n))
    (typed : (n : List ℕ) → Typed (find new n)) {q p : Property} (t : Twice a new q p) where
  abbrev name : List ℕ
  name = t.line.name

  -- the parameters sent, and those of them that jCal has
  abbrev sent : List Param
  sent = without_value t.line.params

  abbrev params : List Param
  params = q.params

  named : is_name (lower name) ≡ true
  named = lower-name (lower name) (name-lower name t.fine.named)

  sent-texts : All Texts sent
  sent-texts = without-All Texts t.line.params t.fine.texts

  passed : Passage (find new name) (find b name) (lower name) sent q p
  passed =
      let x = t.line.value in
      let r = read-line a t.line q t.held in
      let n = read-line new t.line p t.read in
      let s : n.type ≡ r.type = accepted-same (sym n.stated ∙ r.stated) in
      passage (lower name) sent x t.fine.value (params-return sent (without-silent t.line.params) sent-texts) (find new name) (find b name) (below-b name) (typed name) q p
      (way (find new name) (find a name) (below-a name) (typed name) (lower name) r.type sent x q p (stated-if t.line.params r.type r.stated) t.fine.value r.read (rw s at n.read))

  stay : (P : Param → Type 0) → All P sent → All P params
  stay P h = rw passed.params (staying-All passed.decodes P sent h)

  silent : Silent params
  silent = stay (λ p. called (octets "value") p ≡ false) (without-silent t.line.params)

  texts : All Texts params
  texts = stay Texts sent-texts

  writable : All Writable params
  writable = stay Writable (without-All Writable t.line.params t.fine.writable)

  once : name_twice params ≡ false
  once =
      rw passed.params
      (staying-once passed.decodes sent (without-once t.line.params (not-true (name_twice t.line.params) (read-line a t.line q t.held).once)))

  told : Told q
  told =
      let k = passed in
      property-told q (rw k.name (property-name name t.fine.named t.fine.no-begin t.fine.no_end)) writable k.typed k.valued texts once k.neat

  -- the line written
  abbrev type : Option (List ℕ)
  type = shown (find b name) q.type

  abbrev text : List ℕ
  text = values_text (written_sort q) q.values

  row_is : find b q.name ≡ find b name
  row_is = ap (find b) passed.name ∙ found-lower b name

  line-is : property_line b q ≡ line_text (lower name) (with_value type params) text
  unfolding property_line written_line
  line-is =
      ap (λ r. line_text q.name (with_value (shown r q.type) q.params) text) row_is
      ∙ ap (λ n. line_text n (with_value type params) text) passed.name

  line-again : line_of (property_line b q) ≡ again name type params text
  line-again = ap line_of line-is ∙ line-back (lower name) (with_value type params) text named (with-writable type params writable)

  returned : Returned b new q p
  returned =
      let k = passed in
      let w = with-writable type params writable in
      record {
        passed = k.passed;
        passes = rw row_is k.passes;
        is-clean = rw line-is (line_clean (lower name) (with_value type params) text named w (with-texts type params k.stated texts) k.line);
        is-formed = rw line-is (line-formed (lower name) (with_value type params) text named w);
        upright = rw line-is (line-upright (lower name) (with_value type params) text named);
        event = rw line-again (is-event (again name type params text) (name-again name (octets "BEGIN") ∙ t.fine.no-begin) (name-again name (octets "END") ∙ t.fine.no_end));
        read = rw line-again (read_again new name type params text p k.stated silent once k.again);
      }

-- THE LAWS
pub carried : (a b new : Table) → Well-formed new → Keeps a new → Keeps b new → Carried a b new
carried a b new w ka kb = record {
  told = λ t. told a b new (below a ka) (below b kb) typed t;
  returned = λ t. returned a b new (below a ka) (below b kb) typed t;
}
  where
    below : (a : Table) → Keeps a new → (n : List ℕ) → Below (find new n) (find a n)
    below a k n = kept-or-none a new w k n

    typed : (n : List ℕ) → Typed (find new n)
    typed n = by (find new n) refl
      where
        by : (o : Option Row) → find new n ≡ o → Typed o
        by none e = tt
        by (some r) e = found-code new w n r e
