-- The JSON kinds of a recurrence object, value by value and member by member, as the code tests them.
use Rattle.std.specs.Prelude.{ℕ, Bool, List}
use Rattle.octets.specs.Basics.{◌and◌}
use Rattle.octets.specs.Optional.{holds}
use Rattle.octets.specs.Classes.{is_lower_name, upper}
use Rattle.calendar.specs.Recurrence.{PartSort, frequency, moment, count, weekday, ordinal, numbers, Key, key_named}
use Rattle.json_text.specs.Tree.{Json}
use Rattle.values.specs.Recur.{is_word, is_integer, is_until, kind_is}

-- one value of a part
unfoldable pub item_is : PartSort → Json → Bool
item_is frequency j = is_word j
item_is moment j = is_until j
item_is count j = is_integer j
item_is weekday j = is_word j
item_is ordinal j = is_word j
item_is (numbers signed most lo hi) j = is_integer j

-- a member of the object
unfoldable pub member_is : List ℕ → Json → Bool
member_is k j = is_lower_name k and holds (λ (key : Key). kind_is key.sort j) (key_named (upper k))
