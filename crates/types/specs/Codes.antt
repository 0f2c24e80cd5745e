-- The fourteen value types by their codes (01, Which type; RFC 5545 3.3; RFC 7265 3.6).
use Rattle.std.specs.Prelude.{ℕ, suc, Bool, not, List, [], ◌∷◌, eqb, get_or}
use Rattle.octets.specs.Basics.{octets, pick, ◌and◌, ◌or◌, same}
use Rattle.octets.specs.Classes.{between}

-- what passes unprocessed: "unknown" and the types outside the fourteen
abbrev pub unprocessed : ℕ
unprocessed = 0

abbrev pub binary : ℕ
binary = 1

abbrev pub boolean : ℕ
boolean = 2

abbrev pub cal_address : ℕ
cal_address = 3

abbrev pub date : ℕ
date = 4

abbrev pub date_time : ℕ
date_time = 5

abbrev pub duration : ℕ
duration = 6

abbrev pub float : ℕ
float = 7

abbrev pub integer : ℕ
integer = 8

abbrev pub period : ℕ
period = 9

abbrev pub recur : ℕ
recur = 10

abbrev pub text : ℕ
text = 11

abbrev pub time : ℕ
time = 12

abbrev pub uri : ℕ
uri = 13

abbrev pub utc_offset : ℕ
utc_offset = 14

-- the names as jCal has them, in the order of the codes from 1 on
unfoldable pub type_names : List (List ℕ)
type_names =
    octets "binary" ∷ octets "boolean" ∷ octets "cal-address" ∷ octets "date" ∷ octets "date-time" ∷ octets "duration" ∷ octets "float" ∷
    octets "integer" ∷ octets "period" ∷ octets "recur" ∷ octets "text" ∷ octets "time" ∷ octets "uri" ∷ octets "utc-offset" ∷ []

-- the name of a code; nothing for 0 and beyond 14
unfoldable pub type_name : ℕ → List ℕ
type_name c = get_or ([] ∷ type_names) c []

-- the place of a name in a list, counted from k; 0 where it has none
unfoldable pub place_from : ℕ → List ℕ → List (List ℕ) → ℕ
place_from k n [] = 0
place_from k n (m ∷ ms) = pick (same n m) k (place_from (suc k) n ms)

-- the code of a lowercase type name; 0 for one outside the fourteen
unfoldable pub code_named : List ℕ → ℕ
code_named n = place_from 1 n type_names

-- 01, Values: values of the fourteen types split at commas, except binary, cal-address, recur and uri
unfoldable pub type_splits : ℕ → Bool
type_splits c = between binary utc_offset c and not (eqb c binary or eqb c cal_address or eqb c recur or eqb c uri)
