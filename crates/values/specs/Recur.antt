-- The recurrence object of jCal (01, Values, Recur; RFC 7265 3.6.10), both ways through the one recurrence reader.
use Rattle.std.specs.Prelude.{ℕ, Bool, true, false, List, [], ◌∷◌, ◌++◌, map}
use Prim.Native.Char.{code}
use Rattle.std.proofs.Math.Option.{Option}
use Rattle.octets.specs.Basics.{◌and◌, ◌or◌, all}
use Rattle.octets.specs.Pieces.{joined}
use Rattle.octets.specs.Optional.{map?, is_some, holds, given}
use Rattle.octets.specs.Classes.{is_letter, is_digit, is_lower_name, upper, lower}
use Rattle.octets.specs.Decimal.{is_sign, integer_text}
use Rattle.calendar.specs.Dates.{moment_of, moment_is, moment_text}
use Rattle.calendar.specs.Recurrence.{PartSort, frequency, moment, count, weekday, ordinal, numbers, Key, key_named, Part, parts_of, parts_text}
use Rattle.json_text.specs.Tree.{Json, num, str, obj, Items, no_items, item, Members, no_members, member, string?, number?, array?}
use Rattle.content.specs.Parameters.{plain_or}
use Rattle.values.specs.Simple.{integer_of}

-- a value of a part in jCal; UNTIL in the extended form
unfoldable pub item_json : PartSort → List ℕ → Json
item_json frequency s = str s
item_json moment s = str (given s (λ t. t) (moment_of s))
item_json count s = num s
item_json weekday s = str s
item_json ordinal s = str s
item_json (numbers signed most lo hi) s = num s

-- an object in the order received, with lowercase keys; one value plain, several an array
unfoldable pub part_members : List Part → Members
part_members [] = no_members
part_members (p ∷ ps) = member (lower p.name) (plain_or (map (item_json p.sort) p.values)) (part_members ps)

unfoldable pub recur_of : List ℕ → Option Json
recur_of s = map? (λ ps. obj (part_members ps)) (parts_of s)

-- From jCal: the JSON kind that a part takes. A word's octets separate nothing.
unfoldable pub word_octet : ℕ → Bool
word_octet c = is_letter c or is_digit c or is_sign c

unfoldable pub is_word : Json → Bool
is_word j = holds (all word_octet) (string? j)

unfoldable pub is_integer : Json → Bool
is_integer j = holds (λ t. is_some (integer_of t)) (number? j)

unfoldable pub is_until : Json → Bool
is_until j = holds (λ t. moment_is (upper t)) (string? j)

-- a plain value, or an array of one or more
unfoldable pub all_items : (Json → Bool) → Items → Bool
all_items p no_items = true
all_items p (item j js) = p j and all_items p js

unfoldable pub some_items : (Json → Bool) → Items → Bool
some_items p no_items = false
some_items p (item j js) = p j and all_items p js

unfoldable pub one_or_more : (Json → Bool) → Json → Bool
one_or_more p j = given (p j) (some_items p) (array? j)

unfoldable pub kind_is : PartSort → Json → Bool
kind_is frequency j = is_word j
kind_is moment j = is_until j
kind_is count j = is_integer j
kind_is weekday j = is_word j
kind_is ordinal j = one_or_more is_word j
kind_is (numbers signed most lo hi) j = one_or_more is_integer j

-- keys are lowercase names of parts
unfoldable pub kinds_are : Members → Bool
kinds_are no_members = true
kinds_are (member k j ms) = is_lower_name k and holds (λ (key : Key). kind_is key.sort j) (key_named (upper k)) and kinds_are ms

-- the texts of a part's values, as the recurrence reader takes them: -0 is 0, and UNTIL goes into the basic form
unfoldable pub string_text : PartSort → List ℕ → List ℕ
string_text frequency t = t
string_text moment t = moment_text (upper t)
string_text count t = t
string_text weekday t = t
string_text ordinal t = t
string_text (numbers signed most lo hi) t = t

unfoldable pub item_text : PartSort → Json → List ℕ
item_text sort j = given (given [] (string_text sort) (string? j)) integer_text (number? j)

unfoldable pub item_texts : PartSort → Items → List (List ℕ)
item_texts sort no_items = []
item_texts sort (item j js) = item_text sort j ∷ item_texts sort js

unfoldable pub value_texts : PartSort → Json → List (List ℕ)
value_texts sort j = given (item_text sort j ∷ []) (item_texts sort) (array? j)

unfoldable pub member_text : List ℕ → Json → List ℕ
member_text k j = upper k ++ code "=" ∷ joined (code ",") (given [] (λ (key : Key). value_texts key.sort j) (key_named (upper k)))

unfoldable pub member_texts : Members → List (List ℕ)
member_texts no_members = []
member_texts (member k j ms) = member_text k j ∷ member_texts ms

-- the object's rule
unfoldable pub rule_parts : Members → Option (List Part)
rule_parts ms = parts_of (upper (joined (code ";") (member_texts ms)))

unfoldable pub recur_is : Members → Bool
recur_is ms = kinds_are ms and is_some (rule_parts ms)

-- as written: the parts in their normal form
unfoldable pub recur_text : Members → List ℕ
recur_text ms = given [] parts_text (rule_parts ms)
