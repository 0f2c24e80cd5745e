-- Demand 3 at 01's X-TROUGH, its value sent as it is or encoded: the older file has no rows, and the newer the row of X-TROUGH.
use Rattle.std.specs.Prelude.{ℕ, ◌≡◌, true, List, [], ◌∷◌, ◌++◌, map}
use Rattle.octets.specs.Basics.{octets}
use Rattle.octets.specs.Answers.{accepted}
use Rattle.types.specs.Codes.{date_time}
use Rattle.types.specs.Table.{entry, Table, defaults}
use Rattle.types.specs.Rows.{table_of, Keeps}
use Rattle.json_text.specs.Tree.{str}
use Rattle.content.specs.Line.{line_of}
use Rattle.content.specs.Lines.{lines_of}
use Rattle.conversion_theory.specs.Tree.{property, Component, component, leaf}
use Rattle.conversion_theory.specs.ToJcal.{reading}
use Rattle.conversion_theory.specs.Claim.{excepted, those, Side, side, Agree}
use Rattle.proved_cases.specs.Cases.{calendar, jcal, no_rows, added, sent, unlisted_jcal, listed_jcal, encoded, encoded_jcal, stated}

-- the newer's table: the default types, which are the older's, and X-TROUGH as a date-time, many values
abbrev pub grown : Table
grown = defaults ++ entry (octets "X-TROUGH") date_time true ∷ []

-- the newer's reading
abbrev pub newer_reading : Component
newer_reading = component (octets "vcalendar") (property (octets "x-trough") [] (octets "date-time") (str (octets "2024-02-29T06:00:00Z") ∷ []) ∷ []) leaf

-- at a line that is sent: the property that the jCal of each side has, and the line that comes back from the jCal of one side under another
pub record Ages (line : List ℕ) (has : Side → List ℕ) (back : Side → Side → List ℕ) : Type 0 where
  -- the claim's hypotheses
  pub old : table_of no_rows ≡ accepted defaults
  pub new : table_of added ≡ accepted grown
  pub keeps : Keeps defaults grown
  pub reads : reading added (calendar line) ≡ accepted newer_reading
  -- what it says: the line is excepted, and these are the two texts and the four routes
  pub agree : Agree no_rows added defaults grown (calendar line) newer_reading
  pub excepts : those (excepted defaults grown) (map line_of (lines_of (calendar line))) ≡ line_of line ∷ []
  pub written : (a : Side) → agree.jcal a ≡ jcal (has a)
  pub comes_back : (a b : Side) → agree.again a b ≡ calendar (back a b)

-- from the older's jCal the line comes back as it was sent; from the newer's it comes back unencoded, with its type where the table does not list the name
abbrev pub returning : List ℕ → Side → Side → List ℕ
returning line = side (λ _. line) (side stated sent)

-- 01's line, and the same value sent encoded (02, [2])
abbrev pub PlainAges : Type 0
PlainAges = Ages sent (side unlisted_jcal listed_jcal) (returning sent)

abbrev pub EncodedAges : Type 0
EncodedAges = Ages encoded (side encoded_jcal listed_jcal) (returning encoded)
