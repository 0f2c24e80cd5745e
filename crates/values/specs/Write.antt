-- Values from jCal (01, Values; RFC 5545 3.3; RFC 7265 3.6): which JSON values each sort takes, and how iCalendar writes them.
use Rattle.std.specs.Prelude.{ℕ, Bool, false, List, [], ◌∷◌, map}
use Prim.Native.Char.{code}
use Rattle.std.proofs.Math.Option.{Option}
use Rattle.octets.specs.Basics.{◌and◌, ◌or◌, all, single}
use Rattle.octets.specs.Pieces.{joined}
use Rattle.octets.specs.Optional.{is_some, holds, given}
use Rattle.octets.specs.Classes.{plain_octet, upper}
use Rattle.octets.specs.Decimal.{integer_text}
use Rattle.calendar.specs.Dates.{date_is, time_is, date_time_is, offset_is, date_text, time_text, date_time_text, offset_text}
use Rattle.calendar.specs.Durations.{duration_is, period_end_is, period_end_text}
use Rattle.json_text.specs.Tree.{Json, string?, number?, boolean?, array?, object?, list_of_items, octets_of, elements}
use Rattle.values.specs.Sorts.{Sort, plain, binary, boolean, date, date_time, duration, float, geo, integer, period, recur, text, status, time, utc_offset, sort_splits}
use Rattle.values.specs.Texts.{text_is, text_text}
use Rattle.values.specs.Simple.{binary_is, boolean_text, float_of, integer_of}
use Rattle.values.specs.Recur.{recur_is, recur_text}

-- a value of another JSON kind than its type's is 9
unfoldable pub is_string : (List ℕ → Bool) → Json → Bool
is_string p j = holds p (string? j)

-- fixed letters in either case
unfoldable pub is_lettered : (List ℕ → Bool) → Json → Bool
is_lettered p j = holds (λ t. p (upper t)) (string? j)

unfoldable pub is_number : (List ℕ → Option (List ℕ)) → Json → Bool
is_number f j = holds (λ t. is_some (f t)) (number? j)

-- an array of two; of two or three, all alike
unfoldable pub is_two : (Json → Bool) → (Json → Bool) → List Json → Bool
is_two p q [] = false
is_two p q (a ∷ []) = false
is_two p q (a ∷ b ∷ []) = p a and q b
is_two p q (a ∷ b ∷ c ∷ js) = false

unfoldable pub is_two_or_three : (Json → Bool) → List Json → Bool
is_two_or_three p [] = false
is_two_or_three p (a ∷ []) = false
is_two_or_three p (a ∷ b ∷ []) = p a and p b
is_two_or_three p (a ∷ b ∷ c ∷ []) = p a and p b and p c
is_two_or_three p (a ∷ b ∷ c ∷ d ∷ js) = false

unfoldable pub is_array : (List Json → Bool) → Json → Bool
is_array p j = holds (λ js. p (list_of_items js)) (array? j)

unfoldable pub value_is : Sort → Json → Bool
value_is plain j = is_string (all plain_octet) j
value_is binary j = is_string binary_is j
value_is boolean j = is_some (boolean? j)
value_is date j = is_lettered date_is j
value_is date_time j = is_lettered date_time_is j
value_is duration j = is_lettered duration_is j
value_is float j = is_number float_of j
value_is geo j = is_array (is_two (is_number float_of) (is_number float_of)) j
value_is integer j = is_number integer_of j
value_is period j = is_array (is_two (is_lettered date_time_is) (is_lettered period_end_is)) j
value_is recur j = holds recur_is (object? j)
value_is text j = is_string text_is j
value_is status j = is_array (is_two_or_three (is_string text_is)) j
value_is time j = is_lettered time_is j
value_is utc_offset j = is_lettered offset_is j

-- each element as f writes it, with `sep` between
unfoldable pub elements_text : ℕ → (List ℕ → List ℕ) → Json → List ℕ
elements_text sep f j = joined sep (map (λ e. f (octets_of e)) (elements j))

-- start/end
unfoldable pub period_text : List Json → List ℕ
period_text [] = []
period_text (a ∷ bs) = joined (code "/") (date_time_text (upper (octets_of a)) ∷ map (λ b. period_end_text (upper (octets_of b))) bs)

unfoldable pub value_text : Sort → Json → List ℕ
value_text plain j = octets_of j
value_text binary j = octets_of j
value_text boolean j = given [] boolean_text (boolean? j)
value_text date j = date_text (upper (octets_of j))
value_text date_time j = date_time_text (upper (octets_of j))
value_text duration j = upper (octets_of j)
value_text float j = octets_of j
value_text geo j = elements_text (code ";") (λ t. t) j
value_text integer j = integer_text (octets_of j)
value_text period j = period_text (elements j)
value_text recur j = given [] recur_text (object? j)
value_text text j = text_text (octets_of j)
value_text status j = elements_text (code ";") text_text j
value_text time j = time_text (upper (octets_of j))
value_text utc_offset j = offset_text (upper (octets_of j))

-- several values only where the name may have many and the sort splits
unfoldable pub values_are : Bool → Sort → List Json → Bool
values_are many s vs = ((many and sort_splits s) or single vs) and all (value_is s) vs

unfoldable pub values_text : Sort → List Json → List ℕ
values_text s vs = joined (code ",") (map (value_text s) vs)
