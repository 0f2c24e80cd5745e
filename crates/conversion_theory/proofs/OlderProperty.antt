-- A line that the newer table reads, read by the older one: by the same row, or by none, so that VALUE decides or the value passes unprocessed.
use Prim.Native.Nat.{ℕ}
use mathlib.Core.Path.{◌≡◌, refl, ap, ◌∙◌}
use mathlib.Core.Bool.{Bool, true, not}
use mathlib.Core.List.{List, [], ◌∷◌}
use mathlib.Core.Option.{Option, none, some}
use Rattle.octets.specs.Basics.{octets, pick, ◌and◌, ◌or◌, any, single}
use Rattle.octets.specs.Optional.{when, guard, is_some}
use Rattle.octets.specs.Classes.{lower}
use Rattle.octets.specs.Utf8.{clean}
use Rattle.octets.specs.Answers.{Answer, accepted, then}
use Rattle.octets.proofs.Optional.{guard-is}
use Rattle.types.specs.Codes.{code_named}
use Rattle.types.specs.Table.{Row, Table, find}
use Rattle.types.specs.Rows.{Keeps}
use Rattle.types.proofs.Tables.{Well-formed, kept-found}
use Rattle.json_text.specs.Tree.{Json, str}
use Rattle.content.specs.Line.{Param, Line}
use Rattle.content.specs.Parameters.{called, value_type, without_value}
use Rattle.values.specs.Base64.{binary_fits, is_decoded}
use Rattle.values.specs.Sorts.{sort_of}
use Rattle.values.specs.Read.{read_values, values_of}
use Rattle.values.proofs.ValueLaws.{unprocessed-read}
use Rattle.conversion_theory.specs.Tree.{Property, property}
use Rattle.conversion_theory.specs.Property.{type_of, code_of, many_of, decodes_in, read_as, read_property}
use Rattle.conversion_theory.specs.Claim.{excepted, as_unknown, read_as_older}
use Rattle.conversion_theory.proofs.PropertyLaws.{LineFine}
use Rattle.conversion_theory.proofs.ValueParameter.{none-stated, some-stated}
use Rattle.conversion_theory.proofs.PropertyReading.{read_as_lem, as_read, plain-read, unprocessed-code, read-line, line_read_lem}

-- where a name may have many, it may have what it had
many_more : (name : List ℕ) (c : ℕ) (many : Bool) (raw : List ℕ) (vs : List Json) → values_of name c many raw ≡ some vs → values_of name c true raw ≡ some vs
unfolding values_of guard when
many_more name c many raw vs e = rw (guard-is (λ vs. many or single vs) (read_values (sort_of name c) raw) vs e).0

-- by no row: VALUE decides
pub stated-older : (row : Option Row) (name t : List ℕ) (params : List Param) (raw : List ℕ) (p : Property)
    → read_as row name (some t) params raw ≡ accepted p → read_as none name (some t) params raw ≡ accepted p
unfolding type_of code_of many_of decodes_in
stated-older row name t params raw p e =
    let r = read_as_lem row name (some t) params raw p e in
    as_read none name (some t) params raw r.text r.held r.fits r.sent (many_more name (code_named t) (many_of row) r.text r.held r.values) ∙ ap accepted r.whole

-- by no row and without VALUE: the value passes unprocessed
pub unprocessed-older : (name : List ℕ) (params : List Param) (raw : List ℕ) → clean raw ≡ true
    → read_as none name none params raw ≡ accepted (property name params (octets "unknown") (str raw ∷ []))
unfolding type_of many_of binary_fits decodes_in is_decoded values_of sort_of guard when
unprocessed-older name params raw h =
    plain-read none name none params raw (str raw ∷ []) (rw unprocessed-code) (rw unprocessed-code) (rw (unprocessed-code, unprocessed-read raw h))

-- by its name's rows
module _ (l : Line) (p : Property) where
  abbrev read_by : Option Row → Option (List ℕ) → Answer Property
  read_by row type = read_as row (lower l.name) type (without_value l.params) l.value

  pub older-as : (old new : Option Row) → ((r : Row) → old ≡ some r → new ≡ some r) → (type : Option (List ℕ)) → value_type l.params ≡ accepted type
      → clean l.value ≡ true → read_by new type ≡ accepted p
      → read_by old type ≡ accepted (pick (not (is_some old) and is_some new and not (any (called (octets "value")) l.params)) (as_unknown l) p)
  unfolding is_some as_unknown
  older-as (some r) new k type v h e = rw (← k r refl) e
  older-as none (some r) k (some t) v h e = rw (some-stated l.params t v) (stated-older (some r) (lower l.name) t (without_value l.params) l.value p e)
  older-as none (some r) k none v h e = rw (none-stated l.params v) (unprocessed-older (lower l.name) (without_value l.params) l.value h)
  older-as none none k type v h e = e

-- THE LAW: the older reads the line, and its property is what it has of the newer's
pub record OlderReads (old new : Table) (l : Line) (p : Property) : Type 0 where
  pub held : Property
  pub read : read_property old l ≡ accepted held
  pub seen : read_as_older old new l ≡ accepted held
  pub is : held ≡ pick (excepted old new l) (as_unknown l) p

pub older-reads : (old new : Table) → Well-formed new → Keeps old new → (l : Line) (p : Property) → LineFine l → read_property new l ≡ accepted p → OlderReads old new l p
unfolding read_as_older then excepted
older-reads old new w k l p f e =
    let r = read-line new l p e in
    record {
      held = pick (excepted old new l) (as_unknown l) p;
      read = line_read_lem old l r.type r.once r.stated
          ∙ older-as l p (find old l.name) (find new l.name) (kept-found old new w k l.name) r.type r.stated f.value r.read;
      seen = rw e;
      is = refl;
    }
