-- The sort in the last arm of a match, which is one of those that no other arm names.
use Prim.Native.Nat.{ℕ}
use mathlib.Core.Path.{◌≡◌, refl}
use mathlib.Core.Bool.{true, false, false≢true}
use mathlib.Core.List.{List}
use mathlib.Core.Option.{none}
use Rattle.octets.specs.Optional.{is_some, holds}
use Rattle.json_text.specs.Tree.{Json, num, str, string?, number?, boolean?, array?, object?}
use Rattle.values.specs.Coded.{sort_said}
use Rattle.values.specs.Write.{is_string, is_lettered, is_number, is_array, value_is}
use Rattle.values.specs.declared.sorts.Sort.{Sort}
use Rattle.values.specs.declared.sorts.Sort.TheVariants.{Plain, Binary, Boolean, Date, DateTime, Duration, Float, Geo, Integer, Period, Recur, Text, Status, Time, UtcOffset}
use Rattle.ical_values.specs.Parts.{simple}

-- those that take no strings
pub no-string : (l : List ℕ) (s : Sort) → ((s ≡ Plain) → ⊥) → ((s ≡ Binary) → ⊥) → ((s ≡ Date) → ⊥) → ((s ≡ DateTime) → ⊥) → ((s ≡ Duration) → ⊥) → ((s ≡ Text) → ⊥) → ((s ≡ Time) → ⊥) → ((s ≡ UtcOffset) → ⊥) → value_is (sort_said s) (str l) ≡ false
unfolding sort_said value_is is_number is_array holds is_some number? boolean? array? object?
no-string l Plain n _ _ _ _ _ _ _ = absurd (n refl)
no-string l Binary _ n _ _ _ _ _ _ = absurd (n refl)
no-string l Boolean _ _ _ _ _ _ _ _ = refl
no-string l Date _ _ n _ _ _ _ _ = absurd (n refl)
no-string l DateTime _ _ _ n _ _ _ _ = absurd (n refl)
no-string l Duration _ _ _ _ n _ _ _ = absurd (n refl)
no-string l Float _ _ _ _ _ _ _ _ = refl
no-string l Geo _ _ _ _ _ _ _ _ = refl
no-string l Integer _ _ _ _ _ _ _ _ = refl
no-string l Period _ _ _ _ _ _ _ _ = refl
no-string l Recur _ _ _ _ _ _ _ _ = refl
no-string l Text _ _ _ _ _ n _ _ = absurd (n refl)
no-string l Status _ _ _ _ _ _ _ _ = refl
no-string l Time _ _ _ _ _ _ n _ = absurd (n refl)
no-string l UtcOffset _ _ _ _ _ _ _ n = absurd (n refl)

-- no numbers
pub no_number : (l : List ℕ) (s : Sort) → ((s ≡ Float) → ⊥) → ((s ≡ Integer) → ⊥) → value_is (sort_said s) (num l) ≡ false
unfolding sort_said value_is is_string is_lettered is_array holds is_some string? boolean? array? object?
no_number l Plain _ _ = refl
no_number l Binary _ _ = refl
no_number l Boolean _ _ = refl
no_number l Date _ _ = refl
no_number l DateTime _ _ = refl
no_number l Duration _ _ = refl
no_number l Float n _ = absurd (n refl)
no_number l Geo _ _ = refl
no_number l Integer _ n = absurd (n refl)
no_number l Period _ _ = refl
no_number l Recur _ _ = refl
no_number l Text _ _ = refl
no_number l Status _ _ = refl
no_number l Time _ _ = refl
no_number l UtcOffset _ _ = refl

-- nothing else, where they are simple
pub no_other : (j : Json) → string? j ≡ none → number? j ≡ none → (s : Sort) → ((s ≡ Boolean) → ⊥) → ((s ≡ Period) → ⊥) → simple (sort_said s) ≡ true → value_is (sort_said s) j ≡ false
unfolding sort_said simple value_is is_string is_lettered is_number holds
no_other j a b Plain _ _ _ = rw a
no_other j a b Binary _ _ _ = rw a
no_other j a b Boolean n _ _ = absurd (n refl)
no_other j a b Date _ _ _ = rw a
no_other j a b DateTime _ _ _ = rw a
no_other j a b Duration _ _ _ = rw a
no_other j a b Float _ _ _ = rw b
no_other j a b Geo _ _ e = absurd (false≢true e)
no_other j a b Integer _ _ _ = rw b
no_other j a b Period _ n _ = absurd (n refl)
no_other j a b Recur _ _ e = absurd (false≢true e)
no_other j a b Text _ _ _ = rw a
no_other j a b Status _ _ e = absurd (false≢true e)
no_other j a b Time _ _ _ = rw a
no_other j a b UtcOffset _ _ _ = rw a

-- all but recurrence rules, and of these all but GEO and REQUEST-STATUS
pub simple-left : (s : Sort) → ((s ≡ Geo) → ⊥) → ((s ≡ Status) → ⊥) → ((s ≡ Recur) → ⊥) → simple (sort_said s) ≡ true
unfolding sort_said simple
simple-left Plain _ _ _ = refl
simple-left Binary _ _ _ = refl
simple-left Boolean _ _ _ = refl
simple-left Date _ _ _ = refl
simple-left DateTime _ _ _ = refl
simple-left Duration _ _ _ = refl
simple-left Float _ _ _ = refl
simple-left Geo n _ _ = absurd (n refl)
simple-left Integer _ _ _ = refl
simple-left Period _ _ _ = refl
simple-left Recur _ _ n = absurd (n refl)
simple-left Text _ _ _ = refl
simple-left Status _ n _ = absurd (n refl)
simple-left Time _ _ _ = refl
simple-left UtcOffset _ _ _ = refl
