-- Demand 3: tables of different age agree. One claim over all texts, all pairs of tables, and the four routes to jCal and back
-- (01, How much each answer fixes; 02, [2]).
use Rattle.std.specs.Prelude.{ℕ, ◌≤◌, ◌≡◌, Bool, true, not, List, [], ◌∷◌, ◌++◌, map, length, drop}
use Rattle.std.proofs.Math.Option.{none}
use Rattle.octets.specs.Basics.{octets, pick, ◌and◌, any}
use Rattle.octets.specs.Optional.{is_some}
use Rattle.octets.specs.Classes.{lower}
use Rattle.octets.specs.Limits.{most_text}
use Rattle.octets.specs.Answers.{Answer, accepted, then, settled, answer}
use Rattle.types.specs.Table.{Table, find}
use Rattle.types.specs.Rows.{table_of, Keeps}
use Rattle.json_text.specs.Tree.{str, obj}
use Rattle.json_text.specs.Print.{print, print_string, values_json}
use Rattle.content.specs.Line.{Param, Line, line_of}
use Rattle.content.specs.Lines.{lines_of}
use Rattle.content.specs.Parameters.{called, without_value, staying, members_of}
use Rattle.conversion_theory.specs.Tree.{Property, property, Component}
use Rattle.conversion_theory.specs.Property.{decodes_in, read_property}
use Rattle.conversion_theory.specs.Jcal.{jcal_of}
use Rattle.conversion_theory.specs.ToJcal.{read_lines_by, reading, to_jcal}
use Rattle.conversion_theory.specs.ToIcal.{to_ical}

-- in every lent buffer that has room for it, the conversion leaves the text t at the front and the rest unchanged
abbrev pub Writes : Answer (List ℕ) → List ℕ → Type 0
Writes a t = (out : List ℕ) → length t ≤ length out → answer a out ≡ settled 0 (length t) (t ++ drop (length t) out)

-- THE EXCEPTION: a line under a name that the older does not list and the newer does, sent without VALUE
unfoldable pub excepted : Table → Table → Line → Bool
excepted older newer l = not (is_some (find older l.name)) and is_some (find newer l.name) and not (any (called (octets "value")) l.params)

-- what the older has of it: the line's name and parameters, "unknown" and, as one string, the value as received and unfolded
unfoldable pub as_unknown : Line → Property
as_unknown l = property (lower l.name) (without_value l.params) (octets "unknown") (str l.value ∷ [])

-- the newer's reading of a line, as the older has it
unfoldable pub read_as_older : Table → Table → Line → Answer Property
read_as_older older newer l = then (read_property newer l) (λ p. accepted (pick (excepted older newer l) (as_unknown l) p))

-- what the newer has of its parameters: all but VALUE, and but ENCODING=BASE64 where it decodes the value by the name's type
unfoldable pub params_read : Table → Line → List Param
params_read newer l = staying (decodes_in (find newer l.name) none (without_value l.params)) (without_value l.params)

-- the line's property in jCal, ["name",{parameters},type,values]: its name from the line, its parameters, type and values as given
unfoldable pub property_text : Line → List Param → List ℕ → List ℕ
property_text l params typed =
    octets "[" ++ (print_string (lower l.name) ++ (octets "," ++ (print (obj (members_of params)) ++ (octets "," ++ (typed ++ octets "]")))))

-- The newer's text and the older's, octet for octet the same, but at the property of an excepted line: there the newer has its type and values,
-- and no ENCODING=BASE64 that it decodes; the older has all parameters but VALUE, "unknown" and, as one string, the value as received and unfolded.
-- These lines are listed, in the order of the texts.
pub data Beside (older newer : Table) : List Line → List ℕ → List ℕ → Type 0 where
  ended : Beside older newer [] [] []
  shared : {ls : List Line} {n o : List ℕ} (x : ℕ) → Beside older newer ls n o → Beside older newer ls (x ∷ n) (x ∷ o)
  differs : {ls : List Line} {n o : List ℕ} (l : Line) (p : Property) → excepted older newer l ≡ true → read_property newer l ≡ accepted p → Beside older newer ls n o
      → Beside older newer (l ∷ ls)
      (property_text l (params_read newer l) (print_string p.type ++ values_json p.values) ++ n)
      (property_text l (without_value l.params) (octets "\"unknown\"," ++ print_string l.value) ++ o)

-- those that pass the test
unfoldable pub those : {A : Type 0} → (A → Bool) → List A → List A
those p [] = []
those p (x ∷ xs) = pick (p x) (x ∷ those p xs) (those p xs)

-- the same elements, each as often, in any order: as many pass, whatever the test
abbrev pub Rearranged : {A : Type 0} → List A → List A → Type 0
Rearranged {A} xs ys = (p : A → Bool) → length (those p xs) ≡ length (those p ys)

pub data Side : Type 0 where
  older newer : Side

abbrev pub side : {A : Type 0} → A → A → Side → A
side o n older = o
side o n newer = n

-- what the claim says of a stream s with the newer's reading c
pub record Agree (old new : List ℕ) (tₒ tₙ : Table) (s : List ℕ) (c : Component) : Type 0 where
  -- the older accepts it, and its reading is the newer's but for the excepted lines
  pub held : Component
  pub accepts : reading old s ≡ accepted held
  pub alike : read_lines_by (read_as_older tₒ tₙ) (lines_of s) ≡ accepted held
  -- the jCal of each side, which is that of its reading; and what comes back from the jCal of one side under another
  pub jcal : Side → List ℕ
  pub printed : (a : Side) → jcal a ≡ print (jcal_of (side held c a))
  pub again : Side → Side → List ℕ
  -- the two texts differ at the property of each excepted line of the stream, and nowhere else; in jCal properties stand before sub-components
  pub differ : List Line
  pub each : Rearranged differ (those (excepted tₒ tₙ) (map line_of (lines_of s)))
  pub beside : Beside tₒ tₙ differ (jcal newer) (jcal older)
  -- the four routes: both conversions succeed, and the newer's reading of what came back is its reading of the stream
  pub forth : (a : Side) → Writes (to_jcal (side old new a) s) (jcal a)
  pub return : (a b : Side) → length (jcal a) ≤ most_text → Writes (to_ical (side old new b) (jcal a)) (again a b)
  pub kept : (a b : Side) → length (again a b) ≤ most_text → reading new (again a b) ≡ accepted c

abbrev pub Demand3 : Type 0
Demand3 =
    (old new : List ℕ) (tₒ tₙ : Table) → table_of old ≡ accepted tₒ → table_of new ≡ accepted tₙ → Keeps tₒ tₙ
    → (s : List ℕ) (c : Component) → reading new s ≡ accepted c → Agree old new tₒ tₙ s c
