-- The laws of a property's values, whatever their sort: values that were read are taken by jCal's tests, are written, and are read again; those of a
-- clean line are neat, and are written clean. The same by the property's name and the type's code.
use Prim.Native.Nat.{ℕ}
use Prim.Native.Char.{code}
use mathlib.Core.Path.{◌≡◌, refl}
use mathlib.Core.Bool.{Bool, true, false}
use mathlib.Core.List.{List, [], ◌∷◌}
use mathlib.Core.Option.{some}
use Rattle.octets.specs.Basics.{◌and◌, ◌or◌, all, single}
use Rattle.octets.specs.Pieces.{joined}
use Rattle.octets.specs.Optional.{both?, guard, given, each}
use Rattle.octets.specs.Classes.{between, plain_octet, upper}
use Rattle.octets.specs.Utf8.{utf8, clean}
use Rattle.octets.proofs.Cases.{cases, both, and-true, or-second}
use Rattle.octets.proofs.Optional.{guard-is, when_true}
use Rattle.calendar.specs.Dates.{date_of, time_of, date_time_of, offset_of}
use Rattle.calendar.specs.Durations.{duration_of}
use Rattle.types.specs.Codes as typed
use Rattle.json_text.specs.Tree.{Json, str, string?, number?, octets_of}
use Rattle.values.specs.Sorts.{Sort, plain, binary, boolean, date, date_time, duration, float, geo, integer, period, recur, text, status, time, utc_offset, sort_of, is_text, sort_splits}
use Rattle.values.specs.Texts.{bare_split}
use Rattle.values.specs.Simple.{boolean_of, float_of, integer_of}
use Rattle.values.specs.Recur.{recur_of}
use Rattle.values.specs.Read.{read_plain, read_binary, as_string, as_number, read_period, read_geo, read_status, read_text, read_one, values_in, read_values, values_of}
use Rattle.values.specs.Write.{value_text, values_are, values_text}
use Rattle.values.proofs.ListLaws.{Held, alone-held, listed-held, split-held}
use Rattle.values.proofs.FixedLaws.{plain-law, binary-law, date-law, time-law, date-time-law, offset-law, duration-law, boolean-law, period-law}
use Rattle.values.proofs.NumberLaws.{float-law, integer-law, geo-law}
use Rattle.values.proofs.TextLaws.{at-bare-commas, text-law, text-escaped, status-law}
use Rattle.values.proofs.RecurLaws.{recur-law}

pub values-held : (sort : Sort) (raw : List ℕ) (vs : List Json) → read_values sort raw ≡ some vs → Held sort raw vs
unfolding read_values values_in read_one is_text sort_splits typed.type_splits between
values-held plain = alone-held plain read_plain plain-law (λ s. refl)
values-held binary = alone-held binary read_binary binary-law (λ s. refl)
values-held boolean = split-held boolean (λ v. boolean_of (upper v)) boolean-law (λ s. refl) refl
values-held date = split-held date (as_string date_of) date-law (λ s. refl) refl
values-held date_time = split-held date_time (as_string date_time_of) date-time-law (λ s. refl) refl
values-held duration = split-held duration (as_string duration_of) duration-law (λ s. refl) refl
values-held float = split-held float (as_number float_of) float-law (λ s. refl) refl
values-held geo = alone-held geo read_geo geo-law (λ s. refl)
values-held integer = split-held integer (as_number integer_of) integer-law (λ s. refl) refl
values-held period = split-held period read_period period-law (λ s. refl) refl
values-held recur = alone-held recur (λ s. recur_of (upper s)) recur-law (λ s. refl)
values-held text = listed-held text read_text (bare_split (code ",")) at-bare-commas text-law text-escaped (λ s. refl) refl
values-held status = alone-held status read_status status-law (λ s. refl)
values-held time = split-held time (as_string time_of) time-law (λ s. refl) refl
values-held utc_offset = split-held utc_offset (as_string offset_of) offset-law (λ s. refl) refl

-- jCal's tests, for a name that may have many values, or one that has one
pub values-are : (sort : Sort) (raw : List ℕ) (vs : List Json) → Held sort raw vs → (many : Bool) → (many or single vs) ≡ true → values_are many sort vs ≡ true
unfolding values_are
values-are sort raw vs h many e = and-true (count many e) h.are
  where
    count : (many : Bool) → (many or single vs) ≡ true → ((many and sort_splits sort) or single vs) ≡ true
    count true e = cases (sort_splits sort) (λ y. rw y) (λ n. or-second (sort_splits sort) (h.only n))
    count false e = e

-- by name and code
pub record Valued (name : List ℕ) (c : ℕ) (many : Bool) (raw : List ℕ) (vs : List Json) : Type 0 where
  pub held : Held (sort_of name c) raw vs
  pub number : (many or single vs) ≡ true
  pub are : values_are many (sort_of name c) vs ≡ true
  pub again : values_of name c many (values_text (sort_of name c) vs) ≡ some vs

pub values-of : (name : List ℕ) (c : ℕ) (many : Bool) (raw : List ℕ) (vs : List Json) → values_of name c many raw ≡ some vs → Valued name c many raw vs
unfolding values_of
values-of name c many raw vs e =
    let g = guard-is (λ ws. many or single ws) (read_values (sort_of name c) raw) vs e in
    let h = values-held (sort_of name c) raw vs g.0 in
    record {
      held = h;
      number = g.1;
      are = values-are (sort_of name c) raw vs h many g.1;
      again = rw h.again (unfold guard in when_true (many or single vs) vs g.1);
    }

-- a value that passes unprocessed: one string, written as it is
pub unprocessed-read : (raw : List ℕ) → clean raw ≡ true → read_values plain raw ≡ some (str raw ∷ [])
unfolding read_values values_in is_text sort_splits typed.type_splits between read_one read_plain each both? clean
unprocessed-read raw h = rw (when_true (all plain_octet raw) (str raw) (both (utf8 raw) (all plain_octet raw) h).1)

pub unprocessed-held : (raw : List ℕ) → clean raw ≡ true → Held plain raw (str raw ∷ [])
unprocessed-held raw h = values-held plain raw (str raw ∷ []) (unprocessed-read raw h)

pub unprocessed-text : (raw : List ℕ) → values_text plain (str raw ∷ []) ≡ raw
unfolding values_text joined value_text octets_of number? string? given
unprocessed-text raw = refl
