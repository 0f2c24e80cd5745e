-- The reading rules of the types (01, Values; RFC 5545 3.3; RFC 7265 3.6): what jCal holds for the value of a content line; none is number 9.
use Rattle.std.specs.Prelude.{ℕ, Bool, true, false, List, [], ◌∷◌, map}
use Prim.Native.Char.{code}
use Rattle.std.proofs.Math.Option.{Option, none}
use Rattle.octets.specs.Basics.{pick, ◌or◌, all, single}
use Rattle.octets.specs.Pieces.{split}
use Rattle.octets.specs.Optional.{map?, both?, when, guard, each}
use Rattle.octets.specs.Classes.{plain_octet, upper}
use Rattle.calendar.specs.Dates.{date_of, time_of, date_time_of, offset_of}
use Rattle.calendar.specs.Durations.{duration_of, period_end_of}
use Rattle.json_text.specs.Tree.{Json, num, str, arr, no_items, item, items_of}
use Rattle.values.specs.Sorts.{Sort, plain, binary, boolean, date, date_time, duration, float, geo, integer, period, recur, text, status, time, utc_offset, sort_of, is_text, sort_splits}
use Rattle.values.specs.Texts.{bare_split, unescaped, fields}
use Rattle.values.specs.Simple.{binary_is, boolean_of, float_of, integer_of}
use Rattle.values.specs.Recur.{recur_of}

-- no control character but tab
unfoldable pub read_plain : List ℕ → Option Json
read_plain s = when (all plain_octet s) (str s)

unfoldable pub read_binary : List ℕ → Option Json
read_binary s = when (binary_is s) (str s)

-- values with fixed letters are read in uppercase
unfoldable pub as_string : (List ℕ → Option (List ℕ)) → List ℕ → Option Json
as_string f s = map? str (f (upper s))

unfoldable pub as_number : (List ℕ → Option (List ℕ)) → List ℕ → Option Json
as_number f s = map? num (f s)

-- start, and end or duration
unfoldable pub period_of : List (List ℕ) → Option Json
period_of [] = none
period_of (a ∷ []) = none
period_of (a ∷ b ∷ []) = both? (λ x y. arr (item (str x) (item (str y) no_items))) (date_time_of a) (period_end_of b)
period_of (a ∷ b ∷ c ∷ l) = none

unfoldable pub read_period : List ℕ → Option Json
read_period s = period_of (split (code "/") (upper s))

-- GEO as float: two floats, split at a semicolon
unfoldable pub geo_of : List (List ℕ) → Option Json
geo_of [] = none
geo_of (a ∷ []) = none
geo_of (a ∷ b ∷ []) = both? (λ x y. arr (item (num x) (item (num y) no_items))) (float_of a) (float_of b)
geo_of (a ∷ b ∷ c ∷ l) = none

unfoldable pub read_geo : List ℕ → Option Json
read_geo s = geo_of (split (code ";") s)

-- REQUEST-STATUS as text: two or three texts
unfoldable pub two_or_three : {A : Type 0} → List A → Bool
two_or_three [] = false
two_or_three (a ∷ []) = false
two_or_three (a ∷ b ∷ []) = true
two_or_three (a ∷ b ∷ c ∷ []) = true
two_or_three (a ∷ b ∷ c ∷ d ∷ l) = false

unfoldable pub read_status : List ℕ → Option Json
read_status s = map? (λ ts. arr (items_of (map str ts))) (guard two_or_three (fields s))

unfoldable pub read_text : List ℕ → Option Json
read_text s = map? str (unescaped s)

-- one value by itself
unfoldable pub read_one : Sort → List ℕ → Option Json
read_one plain s = read_plain s
read_one binary s = read_binary s
read_one boolean s = boolean_of (upper s)
read_one date s = as_string date_of s
read_one date_time s = as_string date_time_of s
read_one duration s = as_string duration_of s
read_one float s = as_number float_of s
read_one geo s = read_geo s
read_one integer s = as_number integer_of s
read_one period s = read_period s
read_one recur s = recur_of (upper s)
read_one text s = read_text s
read_one status s = read_status s
read_one time s = as_string time_of s
read_one utc_offset s = as_string offset_of s

-- the values: texts between bare commas, others between commas where they split, else one that stands alone
unfoldable pub values_in : Sort → List ℕ → List (List ℕ)
values_in k s = pick (is_text k) (bare_split (code ",") s) (pick (sort_splits k) (split (code ",") s) (s ∷ []))

unfoldable pub read_values : Sort → List ℕ → Option (List Json)
read_values k s = each (read_one k) (values_in k s)

-- by the property's name in lowercase and the type's code; several values only where the name may have many
unfoldable pub values_of : List ℕ → ℕ → Bool → List ℕ → Option (List Json)
values_of name c many raw = guard (λ vs. many or single vs) (read_values (sort_of name c) raw)
