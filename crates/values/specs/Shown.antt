-- The octets that are written for a raw value, valid or not.
use Rattle.std.specs.Prelude.{ℕ, ◌+◌, ◌-◌, Bool, true, false, List, [], ◌∷◌, ◌++◌, map, ltb, length, take, drop}
use Prim.Native.Char.{code}
use Rattle.std.proofs.Math.Option.{Option}
use Rattle.octets.specs.Basics.{octets, pick, same}
use Rattle.octets.specs.Pieces.{split, joined}
use Rattle.octets.specs.Optional.{given}
use Rattle.octets.specs.Classes.{upper, lower}
use Rattle.octets.specs.Decimal.{minus, unsigned, trim, minus_if}
use Rattle.calendar.specs.Dates.{date_time_of, moment_of}
use Rattle.calendar.specs.Recurrence.{PartSort, frequency, moment, count, weekday, ordinal, numbers}
use Rattle.calendar.specs.Walk.{before_first, key_at, first_part, item_shown}
use Rattle.json_text.specs.Print.{print_string}

-- what lies behind the first `sep`
unfoldable pub behind_first : ℕ → List ℕ → List ℕ
behind_first sep s = drop (length (before_first sep s) + 1) s

-- exactly two pieces
unfoldable pub is_pair : {A : Type 0} → List A → Bool
is_pair [] = false
is_pair (a ∷ []) = false
is_pair (a ∷ b ∷ []) = true
is_pair (a ∷ b ∷ c ∷ l) = false

-- a text that may be missing
unfoldable pub string_shown : Option (List ℕ) → List ℕ
string_shown o = print_string (given [] (λ t. t) o)

unfoldable pub boolean_shown : List ℕ → List ℕ
boolean_shown s = pick (same (upper s) (octets "TRUE")) (octets "true") (octets "false")

unfoldable pub float_shown : List ℕ → List ℕ
float_shown s = minus_if (minus s) (trim (unsigned s))

-- an array of two
unfoldable pub array_shown : List ℕ → List ℕ → List ℕ
array_shown x y = code "[" ∷ (x ++ code "," ∷ (y ++ octets "]"))

unfoldable pub geo_shown : List ℕ → List ℕ
geo_shown s = array_shown (float_shown (before_first (code ";") s)) (float_shown (behind_first (code ";") s))

unfoldable pub end_shown : List ℕ → List ℕ
end_shown s = print_string (given (upper s) (λ t. t) (date_time_of (upper s)))

unfoldable pub period_shown : List ℕ → List ℕ
period_shown s = array_shown (string_shown (date_time_of (upper (before_first (code "/") s)))) (end_shown (behind_first (code "/") s))

-- a recurrence rule: a value of a part, the values, a part, and the object
unfoldable pub item_json_shown : PartSort → List ℕ → List ℕ
item_json_shown frequency s = code "\"" ∷ (item_shown frequency s ++ octets "\"")
item_json_shown moment s = string_shown (moment_of (upper s))
item_json_shown count s = item_shown count s
item_json_shown weekday s = code "\"" ∷ (item_shown weekday s ++ octets "\"")
item_json_shown ordinal s = code "\"" ∷ (item_shown ordinal s ++ octets "\"")
item_json_shown (numbers signed most lo hi) s = item_shown (numbers signed most lo hi) s

unfoldable pub list_shown : (List ℕ → List ℕ) → ℕ → List ℕ → List ℕ
list_shown f sep s = joined (code ",") (map f (split sep s))

unfoldable pub items_shown : PartSort → List ℕ → List ℕ
items_shown k v =
    pick (ltb (length (before_first (code ",") v)) (length v)) (code "[" ∷ (list_shown (item_json_shown k) (code ",") v ++ octets "]")) (item_json_shown k v)

unfoldable pub key_shown : List ℕ → List ℕ
key_shown n = code "\"" ∷ (lower n ++ octets "\":")

unfoldable pub part_json_shown : List ℕ → List ℕ
part_json_shown p =
    key_shown (take (first_part p).name p)
    ++ items_shown (key_at (first_part p).key).sort (take ((first_part p).to - (first_part p).from) (drop (first_part p).from p))

unfoldable pub recur_shown : List ℕ → List ℕ
recur_shown s = code "{" ∷ (list_shown part_json_shown (code ";") s ++ octets "}")
