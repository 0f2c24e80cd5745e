-- The parts of a recurrence rule (RFC 5545 3.3.10; 01, Values, Recur), in the order received: their values in uppercase, numbers without plus and
-- leading zeros. The rule's text is in uppercase here.
use Rattle.std.specs.Prelude.{ℕ, ◌-◌, Bool, true, false, not, List, [], ◌∷◌, ◌++◌, map, leb, length, take, drop}
use Prim.Native.Char.{code}
use Rattle.std.proofs.Math.Option.{Option, none, some}
use Rattle.octets.specs.Basics.{octets, pick, ◌and◌, ◌or◌, single, same, among, twice}
use Rattle.octets.specs.Pieces.{split, joined}
use Rattle.octets.specs.Optional.{map?, then?, is_some, when, guard, each}
use Rattle.octets.specs.Classes.{between}
use Rattle.octets.specs.Decimal.{digits, value_of, has_sign, unsigned, trim, integer_text}
use Rattle.octets.specs.Limits.{most_integer}
use Rattle.calendar.specs.Dates.{moment_of}

-- what the values of a part are; of numbers: whether they may have a sign, their most digits, their bounds without the sign
pub data PartSort : Type 0 where
  frequency moment count weekday ordinal : PartSort
  numbers : Bool → ℕ → ℕ → ℕ → PartSort

pub record Key : Type 0 where
  pub name : List ℕ
  pub sort : PartSort

abbrev pub key : List ℕ → PartSort → Key
key n s = record { name = n; sort = s }

unfoldable pub keys : List Key
keys =
    key (octets "FREQ") frequency ∷
    key (octets "UNTIL") moment ∷
    key (octets "COUNT") count ∷
    key (octets "INTERVAL") count ∷
    key (octets "BYSECOND") (numbers false 2 0 60) ∷
    key (octets "BYMINUTE") (numbers false 2 0 59) ∷
    key (octets "BYHOUR") (numbers false 2 0 23) ∷
    key (octets "BYDAY") ordinal ∷
    key (octets "BYMONTHDAY") (numbers true 2 1 31) ∷
    key (octets "BYYEARDAY") (numbers true 3 1 366) ∷
    key (octets "BYWEEKNO") (numbers true 2 1 53) ∷
    key (octets "BYMONTH") (numbers false 2 1 12) ∷
    key (octets "BYSETPOS") (numbers true 3 1 366) ∷
    key (octets "WKST") weekday ∷ []

unfoldable pub key_in : List Key → List ℕ → Option Key
key_in [] n = none
key_in (k ∷ ks) n = pick (same k.name n) (some k) (key_in ks n)

unfoldable pub key_named : List ℕ → Option Key
key_named n = key_in keys n

unfoldable pub frequencies : List (List ℕ)
frequencies =
    octets "SECONDLY" ∷ octets "MINUTELY" ∷ octets "HOURLY" ∷ octets "DAILY" ∷ octets "WEEKLY" ∷ octets "MONTHLY" ∷ octets "YEARLY" ∷ []

unfoldable pub weekdays : List (List ℕ)
weekdays = octets "SU" ∷ octets "MO" ∷ octets "TU" ∷ octets "WE" ∷ octets "TH" ∷ octets "FR" ∷ octets "SA" ∷ []

-- a word of a list
unfoldable pub word_of : List (List ℕ) → List ℕ → Option (List ℕ)
word_of ws s = when (among s ws) s

-- a date or date-time, kept in iCalendar's form
unfoldable pub until_of : List ℕ → Option (List ℕ)
until_of s = when (is_some (moment_of s)) s

-- 1 to 2147483647, in any number of digits
unfoldable pub count_of : List ℕ → Option (List ℕ)
count_of s = when (digits s and between 1 most_integer (value_of s)) (trim s)

unfoldable pub number_of : Bool → ℕ → ℕ → ℕ → List ℕ → Option (List ℕ)
number_of signed most lo hi s =
    when ((signed or not (has_sign s)) and digits (unsigned s) and leb (length (unsigned s)) most and between lo hi (value_of (unsigned s)))
    (integer_text s)

-- weekdaynum: nothing or a number from 1 to 53, and then a weekday, which has two letters
unfoldable pub ordinal_of : List ℕ → Option (List ℕ)
ordinal_of [] = some []
ordinal_of (c ∷ s) = number_of true 2 1 53 (c ∷ s)

unfoldable pub day_of : List ℕ → Option (List ℕ)
day_of s = then? (word_of weekdays (drop (length s - 2) s)) (λ d. map? (λ n. n ++ d) (ordinal_of (take (length s - 2) s)))

-- one value of a part
unfoldable pub item_of : PartSort → List ℕ → Option (List ℕ)
item_of frequency s = word_of frequencies s
item_of moment s = until_of s
item_of count s = count_of s
item_of weekday s = word_of weekdays s
item_of ordinal s = day_of s
item_of (numbers signed most lo hi) s = number_of signed most lo hi s

-- only BY parts have several values
unfoldable pub several : PartSort → Bool
several frequency = false
several moment = false
several count = false
several weekday = false
several ordinal = true
several (numbers signed most lo hi) = true

pub record Part : Type 0 where
  pub name : List ℕ
  pub sort : PartSort
  pub values : List (List ℕ)

abbrev pub part : Key → List (List ℕ) → Part
part k vs = record { name = k.name; sort = k.sort; values = vs }

unfoldable pub keyed_part : List ℕ → Key → Option Part
keyed_part v k = map? (part k) (guard (λ vs. several k.sort or single vs) (each (item_of k.sort) (split (code ",") v)))

-- NAME=VALUES
unfoldable pub part_of : List (List ℕ) → Option Part
part_of [] = none
part_of (n ∷ []) = none
part_of (n ∷ v ∷ []) = then? (key_named n) (keyed_part v)
part_of (n ∷ v ∷ w ∷ l) = none

unfoldable pub names : List Part → List (List ℕ)
names ps = map (λ (p : Part). p.name) ps

-- FREQ exactly once, no part twice, COUNT and UNTIL not together
unfoldable pub is_rule : List Part → Bool
is_rule ps =
    among (octets "FREQ") (names ps) and not (twice (names ps))
    and not (among (octets "COUNT") (names ps) and among (octets "UNTIL") (names ps))

unfoldable pub parts_of : List ℕ → Option (List Part)
parts_of s = guard is_rule (each (λ p. part_of (split (code "=") p)) (split (code ";") s))

-- a rule as written
unfoldable pub part_text : Part → List ℕ
part_text p = p.name ++ code "=" ∷ joined (code ",") p.values

unfoldable pub parts_text : List Part → List ℕ
parts_text ps = joined (code ";") (map part_text ps)
