-- A value that jCal may hold is written clean: in UTF-8, as its strings are, and without control characters but tab, so that nothing in it begins a
-- line of its own (01, Errors that tempt).
use Prim.Native.Nat.{ℕ}
use Prim.Native.Char.{code}
use mathlib.Core.Path.{◌≡◌, refl}
use mathlib.Core.Bool.{Bool, true, false}
use mathlib.Core.List.{List, [], ◌∷◌, map}
use mathlib.Core.Option.{Option, none, some}
use Rattle.octets.specs.Basics.{◌and◌, ◌or◌, all, single, All}
use Rattle.octets.specs.Pieces.{joined}
use Rattle.octets.specs.Optional.{is_some, holds, given}
use Rattle.octets.specs.Classes.{between, plain_octet, text_octet, upper}
use Rattle.octets.specs.Utf8.{clean}
use Rattle.octets.proofs.Cases.{never, both, and-true}
use Rattle.octets.proofs.Optional.{missing, some_same, some_is}
use Rattle.octets.proofs.Utf8.{printable-clean, clean-both}
use Rattle.calendar.specs.Dates.{date_is, time_is, date_time_is, offset_is, date_text, time_text, date_time_text, offset_text}
use Rattle.calendar.specs.Durations.{duration_is, period_end_is, period_end_text}
use Rattle.calendar.specs.Recurrence.{parts_text}
use Rattle.calendar.proofs.WrittenRules.{text-capital}
use Rattle.json_text.specs.Tree.{Json, null, falsity, truth, num, str, arr, obj, Members, string?, number?, boolean?, array?, object?, list_of_items, octets_of, elements}
use Rattle.content.proofs.WrittenOctets.{printable, joined-has}
use Rattle.values.specs.Sorts.{Sort, plain, binary, boolean, date, date_time, duration, float, geo, integer, period, recur, text, status, time, utc_offset, sort_splits}
use Rattle.values.specs.Texts.{text_is, text_text}
use Rattle.values.specs.Simple.{binary_is, boolean_text, float_of, integer_of}
use Rattle.values.specs.Recur.{recur_is, recur_text, rule_parts, kinds_are}
use Rattle.values.specs.Write.{is_string, is_lettered, is_number, is_two, is_two_or_three, is_array, value_is, elements_text, period_text, value_text, values_are, values_text}
use Rattle.values.proofs.TextLaws.{text-clean}
use Rattle.values.proofs.Encoded.{Encoded, encoded-octets, encoded-elements}
use Rattle.values.proofs.CleanTexts.{Clean, capitals-clean, date-clean, time-clean, date-time-clean, offset-clean, duration-clean, period-end-clean, binary-clean, float-clean, integer-clean}

-- what is there, and passes a test
pub holds-is {ℓ} : {P : Type ℓ} {A : Type 0} (p : A → Bool) (o : Option A) → holds p o ≡ true → ((a : A) → o ≡ some a → p a ≡ true → P) → P
unfolding holds
holds-is p none h k = never h refl
holds-is p (some a) h k = k a refl h

-- the octets of a string and of a number
pub string-octets : (j : Json) (t : List ℕ) → string? j ≡ some t → octets_of j ≡ t
unfolding octets_of string? number? given
string-octets null t e = missing e
string-octets falsity t e = missing e
string-octets truth t e = missing e
string-octets (num s) t e = missing e
string-octets (str s) t e = some_same e
string-octets (arr js) t e = missing e
string-octets (obj ms) t e = missing e

number-octets : (j : Json) (t : List ℕ) → number? j ≡ some t → octets_of j ≡ t
unfolding octets_of given
number-octets j t e = rw e

-- by the JSON kind: f of what passes the test p is clean
module _ (p : List ℕ → Bool) (f : List ℕ → List ℕ) (law : (t : List ℕ) → p t ≡ true → Clean (f t)) (j : Json) where
  string-clean : holds p (string? j) ≡ true → Clean (f (octets_of j))
  string-clean h = holds-is p (string? j) h (λ t e k. rw (string-octets j t e) (law t k))

  number-clean : holds p (number? j) ≡ true → Clean (f (octets_of j))
  number-clean h = holds-is p (number? j) h (λ t e k. rw (number-octets j t e) (law t k))

list-clean : (p : List Json → Bool) (f : List Json → List ℕ) (j : Json) → (p (elements j) ≡ true → Clean (f (elements j))) → is_array p j ≡ true → Clean (f (elements j))
unfolding is_array elements given
list-clean p f j law h = law (holds-is (λ js. p (list_of_items js)) (array? j) h (λ js e k. rw e k))

-- arrays of two and of two or three
two-all : (p : Json → Bool) (js : List Json) → is_two p p js ≡ true → all p js ≡ true
unfolding is_two all
two-all p [] h = never h refl
two-all p (a ∷ []) h = never h refl
two-all p (a ∷ b ∷ []) h = let r = both (p a) (p b) h in rw (r.0, r.1)
two-all p (a ∷ b ∷ c ∷ js) h = never h refl

three-all : (p : Json → Bool) (js : List Json) → is_two_or_three p js ≡ true → all p js ≡ true
unfolding is_two_or_three all
three-all p [] h = never h refl
three-all p (a ∷ []) h = never h refl
three-all p (a ∷ b ∷ []) h = let r = both (p a) (p b) h in rw (r.0, r.1)
three-all p (a ∷ b ∷ c ∷ []) h = let r = both (p a) (p b and p c) h in let s = both (p b) (p c) r.1 in rw (r.0, s.0, s.1)
three-all p (a ∷ b ∷ c ∷ d ∷ js) h = never h refl

-- values one behind the other, with a separator between them
clean-joined : (sep : ℕ) → printable sep ≡ true → (ls : List (List ℕ)) → All Clean ls → Clean (joined sep ls)
clean-joined sep e ls h = joined-has Clean printable-clean clean-both sep e ls h

module _ (sep : ℕ) (e : printable sep ≡ true) (p : Json → Bool) (f : Json → List ℕ) (law : (j : Json) → Encoded j → p j ≡ true → Clean (f j)) where
  all-clean : (js : List Json) → All Encoded js → all p js ≡ true → All Clean (map f js)
  unfolding all
  all-clean [] k h = tt
  all-clean (j ∷ js) k h = let b = both (p j) (all p js) h in (law j k.0 b.0, all-clean js k.1 b.1)

  each-clean : (js : List Json) → All Encoded js → all p js ≡ true → Clean (joined sep (map f js))
  each-clean js k h = clean-joined sep e (map f js) (all-clean js k h)

period-clean : (js : List Json) → is_two (is_lettered date_time_is) (is_lettered period_end_is) js ≡ true → Clean (period_text js)
unfolding is_two is_lettered period_text
period-clean [] h = never h refl
period-clean (a ∷ []) h = never h refl
period-clean (a ∷ b ∷ []) h =
    let r = both (holds (λ t. date_time_is (upper t)) (string? a)) (holds (λ t. period_end_is (upper t)) (string? b)) h in
    clean-joined (code "/") (unfold between in refl) (date_time_text (upper (octets_of a)) ∷ period_end_text (upper (octets_of b)) ∷ []) (
      string-clean (λ t. date_time_is (upper t)) (λ t. date_time_text (upper t)) (λ t. date-time-clean (upper t)) a r.0,
      (string-clean (λ t. period_end_is (upper t)) (λ t. period_end_text (upper t)) (λ t. period-end-clean (upper t)) b r.1, tt),
    )
period-clean (a ∷ b ∷ c ∷ js) h = never h refl

boolean-clean : (b : Bool) → Clean (boolean_text b)
unfolding boolean_text
boolean-clean true = printable-clean _ (unfold all between in refl)
boolean-clean false = printable-clean _ (unfold all between in refl)

recur-clean : (ms : Members) → recur_is ms ≡ true → Clean (recur_text ms)
unfolding recur_is recur_text rule_parts given
recur-clean ms h = some_is _ (both (kinds_are ms) _ h).1 (λ ps e. rw e (capitals-clean (parts_text ps) (text-capital _ ps e)))

-- strings that are kept, and texts
plain-clean : (j : Json) → Encoded j → is_string (all plain_octet) j ≡ true → Clean (octets_of j)
unfolding is_string clean
plain-clean j k h = and-true (encoded-octets k) (holds-is (all plain_octet) (string? j) h (λ t e d. rw (string-octets j t e) d))

escaped-clean : (j : Json) → Encoded j → is_string text_is j ≡ true → Clean (text_text (octets_of j))
unfolding is_string text_is
escaped-clean j k h = text-clean (octets_of j) (record { encoded = encoded-octets k; texts = holds-is (all text_octet) (string? j) h (λ t e d. rw (string-octets j t e) d) })

float-of : (j : Json) → Encoded j → is_number float_of j ≡ true → Clean (octets_of j)
unfolding is_number
float-of j k h = number-clean (λ t. is_some (float_of t)) (λ t. t) float-clean j h

value-clean : (s : Sort) (j : Json) → Encoded j → value_is s j ≡ true → Clean (value_text s j)
unfolding value_is value_text is_string is_lettered is_number elements_text given
value-clean plain j k h = plain-clean j k h
value-clean binary j k h = string-clean binary_is (λ t. t) binary-clean j h
value-clean boolean j k h = some_is (boolean? j) h (λ b e. rw e (boolean-clean b))
value-clean date j k h = string-clean (λ t. date_is (upper t)) (λ t. date_text (upper t)) (λ t. date-clean (upper t)) j h
value-clean date_time j k h = string-clean (λ t. date_time_is (upper t)) (λ t. date_time_text (upper t)) (λ t. date-time-clean (upper t)) j h
value-clean duration j k h = string-clean (λ t. duration_is (upper t)) upper (λ t. duration-clean (upper t)) j h
value-clean float j k h = float-of j k h
value-clean geo j k h = list-clean (is_two (is_number float_of) (is_number float_of)) (λ js. joined (code ";") (map octets_of js)) j
    (λ d. each-clean (code ";") (unfold between in refl) (is_number float_of) octets_of float-of (elements j) (encoded-elements k) (two-all (is_number float_of) (elements j) d)) h
value-clean integer j k h = number-clean (λ t. is_some (integer_of t)) _ integer-clean j h
value-clean period j k h = list-clean (is_two (is_lettered date_time_is) (is_lettered period_end_is)) period_text j (period-clean (elements j)) h
value-clean recur j k h = holds-is recur_is (object? j) h (λ ms e d. rw e (recur-clean ms d))
value-clean text j k h = escaped-clean j k h
value-clean status j k h = list-clean (is_two_or_three (is_string text_is)) (λ js. joined (code ";") (map (λ e. text_text (octets_of e)) js)) j
    (λ d. each-clean (code ";") (unfold between in refl) (is_string text_is) (λ e. text_text (octets_of e)) escaped-clean (elements j) (encoded-elements k) (three-all (is_string text_is) (elements j) d)) h
value-clean time j k h = string-clean (λ t. time_is (upper t)) (λ t. time_text (upper t)) (λ t. time-clean (upper t)) j h
value-clean utc_offset j k h = string-clean (λ t. offset_is (upper t)) (λ t. offset_text (upper t)) (λ t. offset-clean (upper t)) j h

-- THE LAW
pub values-clean : (many : Bool) (s : Sort) (vs : List Json) → All Encoded vs → values_are many s vs ≡ true → Clean (values_text s vs)
unfolding values_are values_text
values-clean many s vs k h = each-clean (code ",") (unfold between in refl) (value_is s) (value_text s) (value-clean s) vs k (both ((many and sort_splits s) or single vs) (all (value_is s) vs) h).1
