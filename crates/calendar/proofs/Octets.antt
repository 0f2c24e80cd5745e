-- The octets of a recurrence rule's values: uppercase letters, digits and signs, so no separator.
use Prim.Native.Nat.{ℕ, ◌-◌}
use mathlib.Core.Path.{◌≡◌, refl, ◌∙◌}
use mathlib.Core.Bool.{Bool, true, false, not}
use mathlib.Core.List.{List, [], ◌∷◌, ◌++◌}
use mathlib.Core.Option.{Option, none, some}
use native.Mathlib.Omega.{arith}
use borrow.Author.Tests.{eqb-true}
use lib.Dec.{eqb}
use lib.ListN.{length, take, drop, take-append-drop}
use Rattle.octets.specs.Basics.{◌or◌, all, any, filled, same, among}
use Rattle.octets.specs.Optional.{map?, or?, is_some}
use Rattle.octets.specs.Classes.{between, is_digit, is_upper}
use Rattle.octets.specs.Decimal.{digits, is_sign, has_sign, unsigned, trim, integer_text}
use Rattle.octets.proofs.Cases.{cases, both, either, never, and-true, or-first, or-second, all_weaker, all_append}
use Rattle.octets.proofs.Classes.{same-is}
use Rattle.calendar.specs.Forms.{Slot, digit, sign, letter, added, extended, extended_either, date_form, clock_form, utc, date_time_form}
use Rattle.calendar.specs.Dates.{date_of, date_time_of, moment_of}
use Rattle.octets.proofs.Optional.{when-is, guard-is}
use Rattle.calendar.proofs.Options.{map_is, then_is, or-tells}
use Rattle.calendar.proofs.Extended.{kept-tells}
use Rattle.calendar.specs.Recurrence.{PartSort, frequency, moment, count, weekday, ordinal, numbers, frequencies, weekdays, word_of, until_of, count_of, number_of, ordinal_of, day_of, item_of}

unfoldable pub item_octet : ℕ → Bool
item_octet c = is_upper c or is_digit c or is_sign c

-- numbers
digit-octet : (c : ℕ) → is_digit c ≡ true → item_octet c ≡ true
unfolding item_octet
digit-octet c e = or-second (is_upper c) (or-first (is_sign c) e)

sign-octet : (c : ℕ) → is_sign c ≡ true → item_octet c ≡ true
unfolding item_octet
sign-octet c e = or-second (is_upper c) (or-second (is_digit c) e)

digits-octets : (s : List ℕ) → digits s ≡ true → all item_octet s ≡ true
unfolding digits
digits-octets s h = all_weaker is_digit item_octet digit-octet s (both (filled s) (all is_digit s) h).1

pub unsigned-all : (p : ℕ → Bool) → ((c : ℕ) → is_sign c ≡ true → p c ≡ true) → (s : List ℕ) → all p (unsigned s) ≡ true → all p s ≡ true
unfolding unsigned all
unsigned-all p f [] h = refl
unsigned-all p f (c ∷ s) h = cases (is_sign c)
    (λ e. and-true (f c e) (rw e at h))
    (λ e. rw e at h)

count-octets : (s v : List ℕ) → count_of s ≡ some v → all item_octet s ≡ true
unfolding count_of
count-octets s v e = digits-octets s (both (digits s) _ (when-is _ (trim s) v e).0).0

number-octets : (signed : Bool) (most lo hi : ℕ) (s v : List ℕ) → number_of signed most lo hi s ≡ some v → all item_octet s ≡ true
unfolding number_of
number-octets signed most lo hi s v e =
    let t = both (signed or not (has_sign s)) _ (when-is _ (integer_text s) v e).0 in
    unsigned-all item_octet sign-octet s (digits-octets (unsigned s) (both (digits (unsigned s)) _ t.1).0)

-- words
pub among-all : (p : ℕ → Bool) (s : List ℕ) (ws : List (List ℕ)) → all (all p) ws ≡ true → among s ws ≡ true → all p s ≡ true
unfolding all among any
among-all p s [] h e = never e refl
among-all p s (w ∷ ws) h e =
    let b = both (all p w) (all (all p) ws) h in
    either (same s w) (any (same s) ws) e (λ d. rw (same-is s w d) b.0) (λ d. among-all p s ws b.1 d)

word-octets : (ws : List (List ℕ)) → all (all item_octet) ws ≡ true → (s v : List ℕ) → word_of ws s ≡ some v → all item_octet s ≡ true
unfolding word_of
word-octets ws h s v e = among-all item_octet s ws h (when-is (among s ws) s v e).0

frequency-octets : all (all item_octet) frequencies ≡ true
unfolding all frequencies item_octet is_upper is_digit is_sign between
frequency-octets = refl

weekday-octets : all (all item_octet) weekdays ≡ true
unfolding all weekdays item_octet is_upper is_digit is_sign between
weekday-octets = refl

-- weekdays with a number
ordinal-octets : (s v : List ℕ) → ordinal_of s ≡ some v → all item_octet s ≡ true
unfolding ordinal_of
ordinal-octets [] v e = unfold all in refl
ordinal-octets (c ∷ s) v e = number-octets true 2 1 53 (c ∷ s) v e

day-octets : (s v : List ℕ) → day_of s ≡ some v → all item_octet s ≡ true
unfolding day_of
day-octets s v e =
    let k = length s - 2 in
    let t = then_is (word_of weekdays (drop k s)) (λ d. map? (λ n. n ++ d) (ordinal_of (take k s))) v e in
    let m = map_is (λ n. n ++ t.0) (ordinal_of (take k s)) v t.2 in
    let w : all item_octet (take k s ++ drop k s) ≡ true
    = all_append item_octet (take k s) (drop k s) ∙ and-true (ordinal-octets (take k s) m.0 m.1) (word-octets weekdays weekday-octets (drop k s) t.0 t.1) in
    rw (take-append-drop k s) at w

-- a date or a date-time, by the slots of its form
abbrev Lettered : List Slot → Type 0
Lettered [] = Unit {0}
Lettered (digit ∷ f) = Lettered f
Lettered (sign ∷ f) = Lettered f
Lettered (letter l ∷ f) = (item_octet l ≡ true) × Lettered f
Lettered (added a ∷ f) = Lettered f

form-octets : (f : List Slot) (s t : List ℕ) → Lettered f → extended f s ≡ some t → all item_octet s ≡ true
unfolding extended all
form-octets [] [] t l e = refl
form-octets [] (x ∷ s) t l e = let z : ◌≡◌ {A = ℕ} 0 1 = cc in absurd (omega arith)
form-octets (digit ∷ f) [] t l e = refl
form-octets (digit ∷ f) (x ∷ s) t l e = let k = kept-tells (is_digit x) x (extended f s) t e in and-true (digit-octet x k.passed) (form-octets f s k.tail l k.rest)
form-octets (sign ∷ f) [] t l e = refl
form-octets (sign ∷ f) (x ∷ s) t l e = let k = kept-tells (is_sign x) x (extended f s) t e in and-true (sign-octet x k.passed) (form-octets f s k.tail l k.rest)
form-octets (letter a ∷ f) [] t l e = refl
form-octets (letter a ∷ f) (x ∷ s) t l e =
    let k = kept-tells (eqb x a) a (extended f s) t e in
    let q : item_octet x ≡ true = rw (eqb-true x a k.passed) l.0 in
    and-true q (form-octets f s k.tail l.1 k.rest)
form-octets (added a ∷ f) s t l e = let k = kept-tells true a (extended f s) t e in form-octets f s k.tail l k.rest

date-lettered : Lettered date_form
unfolding date_form
date-lettered = tt

date_time-lettered : (z : Bool) → Lettered (date_time_form z)
unfolding date_time_form date_form clock_form utc item_octet is_upper between
date_time-lettered true = (refl, (refl, tt))
date_time-lettered false = (refl, tt)

moment-octets : (s v : List ℕ) → until_of s ≡ some v → all item_octet s ≡ true
unfolding until_of moment_of
moment-octets s v e = by (date_of s) refl (date_time_of s) refl (when-is _ s v e).0
  where
    by : (o : Option (List ℕ)) → date_of s ≡ o → (p : Option (List ℕ)) → date_time_of s ≡ p → is_some (or? o p) ≡ true → all item_octet s ≡ true
    by none d none m h = unfold or? is_some in never h refl
    by none d (some t) m h =
        or-tells (extended (date_time_form false) s) (extended (date_time_form true) s) t (unfold date_time_of extended_either in (guard-is _ _ t m).0)
        (λ a. form-octets (date_time_form false) s t (date_time-lettered false) a) (λ n a. form-octets (date_time_form true) s t (date_time-lettered true) a)
    by (some t) d p m h = unfold date_of in form-octets date_form s t date-lettered (guard-is _ _ t d).0

-- the octets of a value that is taken
pub item-octets : (sort : PartSort) (s v : List ℕ) → item_of sort s ≡ some v → all item_octet s ≡ true
unfolding item_of
item-octets frequency s v e = word-octets frequencies frequency-octets s v e
item-octets moment s v e = moment-octets s v e
item-octets count s v e = count-octets s v e
item-octets weekday s v e = word-octets weekdays weekday-octets s v e
item-octets ordinal s v e = day-octets s v e
item-octets (numbers signed most lo hi) s v e = number-octets signed most lo hi s v e
