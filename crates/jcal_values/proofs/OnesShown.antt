-- A value by itself that is read is written as it is: all but recurrence rules.
use Prim.Native.Nat.{ℕ}
use Prim.Native.Char.{code}
use mathlib.Core.Path.{◌≡◌, refl, ap, ◌∙◌}
use mathlib.Core.Bool.{Bool, true, false}
use mathlib.Core.List.{List}
use mathlib.Core.Option.{Option, none, some}
use Rattle.octets.specs.Basics.{octets, pick, same}
use Rattle.octets.specs.Pieces.{split}
use Rattle.octets.specs.Optional.{both?, or?, is_some, when, given}
use Rattle.octets.specs.Classes.{upper}
use Rattle.octets.specs.Decimal.{integer_text}
use Rattle.octets.proofs.Cases.{cases, never}
use Rattle.octets.proofs.Optional.{missing, some_same, when-is, map_is, both_is}
use Rattle.calendar.specs.Dates.{date_time_of}
use Rattle.calendar.specs.Durations.{duration_is, duration_of, forward_is, period_end_of}
use Rattle.calendar.specs.Walk.{before_first}
use Rattle.calendar.proofs.Pieces.{split-upper}
use Rattle.json_text.specs.Tree.{Json, num, str, arr, truth, falsity, no_items, item}
use Rattle.json_text.specs.Print.{print_string, print, first_item, more_items}
use Rattle.values.specs.Simple.{binary_is, boolean_of, float_of, integer_of}
use Rattle.values.specs.Read.{read_binary, as_string, as_number, geo_of, read_geo, period_of, read_period}
use Rattle.values.specs.Shown.{behind_first, string_shown, boolean_shown, float_shown, array_shown, geo_shown, end_shown, period_shown, is_pair}
use Rattle.values.proofs.Halves.{pair-split, geo-none, period-none, slash-uncased}

pub binary-shown : (s : List ℕ) (j : Json) → read_binary s ≡ some j → print_string s ≡ print j
unfolding read_binary print
binary-shown s j h = let w = when-is (binary_is s) (str s) j h in rw (← w.1)

pub boolean-shown : (s : List ℕ) (j : Json) → boolean_of (upper s) ≡ some j → boolean_shown s ≡ print j
unfolding boolean_of boolean_shown when or?
boolean-shown s j h = by (same (upper s) (octets "TRUE")) (same (upper s) (octets "FALSE")) h
  where
    by : (a b : Bool) → or? (when a truth) (when b falsity) ≡ some j → pick a (octets "true") (octets "false") ≡ print j
    by true b e = rw (← (some_same e)) (unfold print in refl)
    by false true e = rw (← (some_same e)) (unfold print in refl)
    by false false e = missing e

pub duration-shown : (s : List ℕ) (j : Json) → as_string duration_of s ≡ some j → print_string (upper s) ≡ print j
unfolding as_string duration_of
duration-shown s j h = map_is str (when (duration_is (upper s)) (upper s)) j h (λ t q p. rw ((when-is _ (upper s) t q).1, ← p) (unfold print in refl))

-- numbers
pub float_is : (s x : List ℕ) → float_of s ≡ some x → float_shown s ≡ x
unfolding float_of float_shown
float_is s x h = (when-is _ _ x h).1

pub float-shown : (s : List ℕ) (j : Json) → as_number float_of s ≡ some j → float_shown s ≡ print j
unfolding as_number
float-shown s j h = map_is num (float_of s) j h (λ t q p. rw (float_is s t q, ← p) (unfold print in refl))

pub integer-shown : (s : List ℕ) (j : Json) → as_number integer_of s ≡ some j → integer_text s ≡ print j
unfolding as_number integer_of
integer-shown s j h = map_is num _ j h (λ t q p. rw ((when-is _ (integer_text s) t q).1, ← p) (unfold print in refl))

-- arrays of two
array-two : (x y : List ℕ) (a b : Json) → x ≡ print a → y ≡ print b → array_shown x y ≡ print (arr (item a (item b no_items)))
unfolding array_shown print first_item more_items
array-two x y a b e f = rw (e, f)

pub geo-shown : (s : List ℕ) (j : Json) → read_geo s ≡ some j → geo_shown s ≡ print j
geo-shown s j h = cases (is_pair (split (code ";") s))
    (λ t. by (unfold read_geo geo_of in (rw (pair-split (code ";") s t) at h)))
    (λ t. never (ap is_some h ∙ unfold is_some in refl) (geo-none s t))
  where
    by : both? (λ x y. arr (item (num x) (item (num y) no_items))) (float_of (before_first (code ";") s)) (float_of (behind_first (code ";") s)) ≡ some j → geo_shown s ≡ print j
    by e = both_is _ _ _ j e (λ x y a b q. unfold geo_shown in (rw (← q) (array-two _ _ (num x) (num y) (unfold print in float_is _ x a) (unfold print in float_is _ y b))))

end_is : (s y : List ℕ) → period_end_of (upper s) ≡ some y → end_shown s ≡ print_string y
unfolding period_end_of end_shown or? given
end_is s y h = by (date_time_of (upper s)) h
  where
    by : (o : Option (List ℕ)) → or? o (when (forward_is (upper s)) (upper s)) ≡ some y → print_string (given (upper s) (λ t. t) o) ≡ print_string y
    by none e = ap print_string (when-is (forward_is (upper s)) (upper s) y e).1
    by (some t) e = ap print_string (some_same e)

start_is : (o : Option (List ℕ)) (x : List ℕ) → o ≡ some x → string_shown o ≡ print_string x
unfolding string_shown given
start_is o x e = rw e

pub period-shown : (s : List ℕ) (j : Json) → read_period s ≡ some j → period_shown s ≡ print j
period-shown s j h = cases (is_pair (split (code "/") s))
    (λ t. by (unfold read_period period_of in (rw (split-upper (code "/") slash-uncased s, pair-split (code "/") s t) at h)))
    (λ t. never (ap is_some h ∙ unfold is_some in refl) (period-none s t))
  where
    by : both? (λ x y. arr (item (str x) (item (str y) no_items))) (date_time_of (upper (before_first (code "/") s))) (period_end_of (upper (behind_first (code "/") s))) ≡ some j → period_shown s ≡ print j
    by e = both_is _ _ _ j e (λ x y a b q. unfold period_shown in (rw (← q) (array-two _ _ (str x) (str y) (unfold print in start_is _ x a) (unfold print in end_is _ y b))))
