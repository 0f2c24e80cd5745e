-- What the code tells of the sort of a part's values, and what the definitions say of it.
use Prim.Native.Nat.{ℕ}
use mathlib.Core.Path.{◌≡◌, refl}
use mathlib.Core.Bool.{false}
use mathlib.Core.Logic.{◌⊎◌, inl, inr}
use mathlib.Core.List.{List}
use Rattle.octets.specs.Basics.{all}
use Rattle.octets.specs.Classes.{upper}
use Rattle.octets.specs.Decimal.{integer_text}
use Rattle.octets.specs.Optional.{holds, is_some}
use Rattle.calendar.specs.Walk.{part_sort_said, item_shown}
use Rattle.calendar.specs.Dates.{moment_is}
use Rattle.calendar.specs.declared.parts.Bounds.{Bounds}
use Rattle.calendar.specs.declared.parts.PartSort.{PartSort}
use Rattle.calendar.specs.declared.parts.PartSort.TheVariants.{Frequency, Moment, Count, Weekday, Ordinal, Numbers}
use Rattle.json_text.specs.Tree.{num, str, string?, number?}
use Rattle.values.specs.Simple.{integer_of}
use Rattle.values.specs.Recur.{word_octet, is_word, is_integer, is_until, string_text}
use Rattle.ical_recur.specs.Kinds.{item_is}

module _ (sort : PartSort) (s : List ℕ) where
  -- strings
  pub word-sort : (sort ≡ Frequency) ⊎ ((sort ≡ Weekday) ⊎ (sort ≡ Ordinal)) → all word_octet s ≡ item_is (part_sort_said sort) (str s)
  unfolding part_sort_said item_is is_word holds string?
  word-sort (inl e) = rw e
  word-sort (inr (inl e)) = rw e
  word-sort (inr (inr e)) = rw e

  pub moment-sort : sort ≡ Moment → moment_is (upper s) ≡ item_is (part_sort_said sort) (str s)
  unfolding part_sort_said item_is is_until holds string?
  moment-sort e = rw e

  pub no-string : (sort ≡ Count) ⊎ ((b : Bounds) × (sort ≡ Numbers b)) → false ≡ item_is (part_sort_said sort) (str s)
  unfolding part_sort_said item_is is_integer holds number?
  no-string (inl e) = rw e
  no-string (inr (b, e)) = rw e

  -- numbers
  pub number-sort : (sort ≡ Count) ⊎ ((b : Bounds) × (sort ≡ Numbers b)) → is_some (integer_of s) ≡ item_is (part_sort_said sort) (num s)
  unfolding part_sort_said item_is is_integer holds number?
  number-sort (inl e) = rw e
  number-sort (inr (b, e)) = rw e

  -- as they are written
  pub plain-sort : (sort ≡ Frequency) ⊎ ((sort ≡ Moment) ⊎ (sort ≡ Weekday)) → upper s ≡ item_shown (part_sort_said sort) s
  unfolding part_sort_said item_shown
  plain-sort (inl e) = rw e
  plain-sort (inr (inl e)) = rw e
  plain-sort (inr (inr e)) = rw e

  pub integer-sort : (sort ≡ Count) ⊎ ((b : Bounds) × (sort ≡ Numbers b)) → integer_text s ≡ item_shown (part_sort_said sort) s
  unfolding part_sort_said item_shown
  integer-sort (inl e) = rw e
  integer-sort (inr (b, e)) = rw e

pub number-other : (sort : PartSort) (s : List ℕ) → (sort ≡ Count → ⊥) → ((b : Bounds) → sort ≡ Numbers b → ⊥) → false ≡ item_is (part_sort_said sort) (num s)
unfolding part_sort_said item_is is_word is_until holds string?
number-other Frequency s n m = refl
number-other Moment s n m = refl
number-other Count s n m = absurd (n refl)
number-other Weekday s n m = refl
number-other Ordinal s n m = refl
number-other (Numbers b) s n m = absurd (m b refl)

pub string-other : (sort : PartSort) (s : List ℕ) → (sort ≡ Moment → ⊥) → s ≡ string_text (part_sort_said sort) s
unfolding part_sort_said string_text
string-other Frequency s n = refl
string-other Moment s n = absurd (n refl)
string-other Count s n = refl
string-other Weekday s n = refl
string-other Ordinal s n = refl
string-other (Numbers b) s n = refl
