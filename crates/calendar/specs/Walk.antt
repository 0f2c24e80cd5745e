-- Walking the text of a recurrence rule by places, letters in either case: its parts between semicolons, the place of their keys in `keys`, and
-- where their values stand.
use Rattle.std.specs.Prelude.{ℕ, suc, ◌+◌, ◌-◌, List, [], ◌∷◌, ◌++◌, map, eqb, ltb, length, get_or, take, drop, Some, None}
use Prim.Native.Char.{code}
use Rattle.std.specs.declared.option.Option as option
use Rattle.octets.specs.Basics.{pick, ◌and◌, same}
use Rattle.octets.specs.Pieces.{split, joined}
use Rattle.octets.specs.Classes.{upper}
use Rattle.octets.specs.Decimal.{integer_text}
use Rattle.calendar.specs.Recurrence.{PartSort, frequency, moment, count, weekday, ordinal, numbers, Key, key, keys}
use Rattle.calendar.specs.declared.parts.PartAt.{PartAt}
use Rattle.calendar.specs.declared.parts.Key.{Key as KeyInCode}
use Rattle.calendar.specs.declared.parts.Key.TheVariants.{Freq, Until, Count as CountKey, Interval, BySecond, ByMinute, ByHour, ByDay, ByMonthDay, ByYearDay, ByWeekNo, ByMonth, BySetPos, Wkst}
use Rattle.calendar.specs.declared.parts.PartSort.{PartSort as SortInCode}
use Rattle.calendar.specs.declared.parts.PartSort.TheVariants.{Frequency, Moment, Count, Weekday, Ordinal, Numbers}

-- the octets before the first `sep`, or all of them
unfoldable pub before_first : ℕ → List ℕ → List ℕ
before_first sep [] = []
before_first sep (c ∷ s) = pick (eqb c sep) [] (c ∷ before_first sep s)

-- the place of a text among words; their number, where it is none of them
unfoldable pub word_place : List (List ℕ) → List ℕ → ℕ
word_place [] n = 0
word_place (w ∷ ws) n = pick (same w n) 0 (suc (word_place ws n))

-- counted from i, with k the length of the text: words of another length are passed over
unfoldable pub word_place_from : ℕ → ℕ → List (List ℕ) → List ℕ → ℕ
word_place_from i k [] n = i
word_place_from i k (w ∷ ws) n = pick (eqb k (length w) and same w n) i (word_place_from (suc i) k ws n)

abbrev pub key_names : List (List ℕ)
key_names = map (λ (k : Key). k.name) keys

unfoldable pub key_place : List ℕ → ℕ
key_place n = word_place key_names n

unfoldable pub key_at : ℕ → Key
key_at i = get_or keys i (key [] frequency)

-- the sort that a key's values are of, as the code has it
unfoldable pub part_sort_said : SortInCode → PartSort
part_sort_said Frequency = frequency
part_sort_said Moment = moment
part_sort_said Count = count
part_sort_said Weekday = weekday
part_sort_said Ordinal = ordinal
part_sort_said (Numbers b) = numbers b.signed b.most b.lo b.hi

-- the place of a key that the code has, and of what is none behind them
abbrev pub key_number : KeyInCode → ℕ
key_number Freq = 0
key_number Until = 1
key_number CountKey = 2
key_number Interval = 3
key_number BySecond = 4
key_number ByMinute = 5
key_number ByHour = 6
key_number ByDay = 7
key_number ByMonthDay = 8
key_number ByYearDay = 9
key_number ByWeekNo = 10
key_number ByMonth = 11
key_number BySetPos = 12
key_number Wkst = 13

abbrev pub key_said : option.Option KeyInCode → ℕ
key_said None = length keys
key_said (Some k) = key_number k

-- a part: its key's place, the length of its name, where its values begin, and where it ends
pub record Places : Type 0 where
  pub key : ℕ
  pub name : ℕ
  pub from : ℕ
  pub to : ℕ

-- the same, as the code has it
abbrev pub part_said : PartAt → Places
part_said q = record { key = key_said q.key; name = q.name; from = q.from; to = q.to }

abbrev pub part_at : ℕ → ℕ → ℕ → ℕ → Places
part_at k n f t = record { key = k; name = n; from = f; to = t }

-- a part whose name has n octets; without an equals sign it has no key
unfoldable pub keyed : ℕ → List ℕ → Places
keyed n p = pick (ltb n (length p)) (part_at (key_place (upper (take n p))) n (n + 1) (length p)) (part_at (length keys) n n (length p))

unfoldable pub part_in : List ℕ → Places
part_in p = keyed (length (before_first (code "=") p)) p

-- the part that a text begins with
unfoldable pub first_part : List ℕ → Places
first_part s = part_in (before_first (code ";") s)

-- a value as it is written: in uppercase, a number without plus and leading zeros
unfoldable pub item_shown : PartSort → List ℕ → List ℕ
item_shown frequency s = upper s
item_shown moment s = upper s
item_shown count s = integer_text s
item_shown weekday s = upper s
item_shown ordinal s = integer_text (take (length s - 2) s) ++ upper (drop (length s - 2) s)
item_shown (numbers signed most lo hi) s = integer_text s

-- the values of a part, the part at q, and a rule as they are written
unfoldable pub values_shown : PartSort → List ℕ → List ℕ
values_shown sort v = joined (code ",") (map (item_shown sort) (split (code ",") v))

unfoldable pub part_shown : Places → List ℕ → List ℕ
part_shown q s = upper (take q.name s) ++ code "=" ∷ values_shown (key_at q.key).sort (take (q.to - q.from) (drop q.from s))

unfoldable pub rule_shown : List ℕ → List ℕ
rule_shown s = joined (code ";") (map (λ p. part_shown (part_in p) p) (split (code ";") s))
