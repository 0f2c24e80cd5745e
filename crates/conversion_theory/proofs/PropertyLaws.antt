-- A property on its way to jCal under one table and back under another: what its laws say, and what demand 3 is put together from.
use Prim.Native.Nat.{ℕ}
use mathlib.Core.Path.{◌≡◌}
use mathlib.Core.Bool.{true, false}
use mathlib.Core.List.{List}
use Rattle.octets.specs.Basics.{octets, pick, All}
use Rattle.octets.specs.Classes.{is_name, same_name}
use Rattle.octets.specs.Utf8.{clean}
use Rattle.octets.specs.Answers.{accepted}
use Rattle.types.specs.Table.{Table, find}
use Rattle.content.specs.Line.{Line, line_of}
use Rattle.content.specs.Form.{formed}
use Rattle.content.proofs.Written.{Writable}
use Rattle.content.proofs.WrittenClean.{Texts}
use Rattle.content.proofs.Unfolded.{Upright}
use Rattle.values.proofs.Neat.{Neat}
use Rattle.conversion_theory.specs.Tree.{Property}
use Rattle.conversion_theory.specs.Structure.{carries, event_of}
use Rattle.conversion_theory.specs.Property.{read_property}
use Rattle.conversion_theory.specs.Jcal.{property_json}
use Rattle.conversion_theory.specs.Skeleton.{is_property, property_from}
use Rattle.conversion_theory.specs.Return.{checked}
use Rattle.conversion_theory.specs.ToIcal.{property_line}
use Rattle.conversion_theory.specs.Claim.{excepted, as_unknown}

-- what tests 3 and 4 say of a line that is neither BEGIN nor END
pub record LineFine (l : Line) : Type 0 where
  pub named : is_name l.name ≡ true
  pub no-begin : same_name l.name (octets "BEGIN") ≡ false
  pub no_end : same_name l.name (octets "END") ≡ false
  pub writable : All Writable l.params
  pub texts : All Texts l.params
  pub value : clean l.value ≡ true

abbrev pub LineLaw : Type 0
LineLaw = (s : List ℕ) → clean s ≡ true → formed s ≡ true → event_of (line_of s) ≡ carries (line_of s) → LineFine (line_of s)

-- a property as the table a holds it, and as the newer reads the same line
pub record Twice (a new : Table) (q p : Property) : Type 0 where
  pub line : Line
  pub fine : LineFine line
  pub held : read_property a line ≡ accepted q
  pub read : read_property new line ≡ accepted p
  pub seen : q ≡ pick (excepted a new line) (as_unknown line) p

-- what jCal has of it is a property, neat, and says what it is
pub record Told (q : Property) : Type 0 where
  pub is : is_property (property_json q) ≡ true
  pub neat : Neat 3 (property_json q)
  pub from : property_from (property_json q) ≡ q

-- it passes the tests of the way back under the table b; the line written is clean, formed, begins with no space, and the newer reads p from it
pub record Returned (b new : Table) (q p : Property) : Type 0 where
  pub passed : Property
  pub passes : checked (find b q.name) q ≡ accepted passed
  pub is-clean : clean (property_line b q) ≡ true
  pub is-formed : formed (property_line b q) ≡ true
  pub upright : Upright (property_line b q)
  pub event : event_of (line_of (property_line b q)) ≡ carries (line_of (property_line b q))
  pub read : read_property new (line_of (property_line b q)) ≡ accepted p

pub record Carried (a b new : Table) : Type 0 where
  pub told : {q p : Property} → Twice a new q p → Told q
  pub returned : {q p : Property} → Twice a new q p → Returned b new q p
