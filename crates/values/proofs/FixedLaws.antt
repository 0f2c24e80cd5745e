-- The laws of the values that are written as they are read, but for the case of letters: unprocessed values, binary, boolean, dates, times, date-times,
-- UTC offsets, durations and periods.
use Prim.Native.Nat.{ℕ, ◌-◌}
use Prim.Native.Char.{code}
use mathlib.Core.Path.{◌≡◌, refl, sym, ◌∙◌}
use mathlib.Core.Bool.{Bool, true, false}
use mathlib.Core.List.{List, [], ◌∷◌}
use mathlib.Core.Option.{Option, some}
use native.Mathlib.Omega.{arith}
use borrow.Author.Tests.{ne_eqb}
use lib.Dec.{eqb}
use Rattle.octets.specs.Basics.{octets, all, same}
use Rattle.octets.specs.Pieces.{split, joined}
use Rattle.octets.specs.Optional.{map?, or?, is_some, when, holds, given}
use Rattle.octets.specs.Classes.{is_lower, plain_octet, upper_octet, upper}
use Rattle.octets.proofs.Cases.{cases}
use Rattle.octets.proofs.Classes.{is_lower-range, upper-octet-is, upper-octet-other, upper-twice, same-is}
use Rattle.octets.proofs.Optional.{missing, some_same, when-is, when_true, map_is, both_is}
use Rattle.octets.proofs.Pieces.{Free, joined-split}
use Rattle.octets.proofs.Utf8.{clean-upper, printable-clean}
use Rattle.calendar.specs.Dates.{date_of, time_of, date_time_of, offset_of, date_is, time_is, date_time_is, offset_is, date_text, time_text, date_time_text, offset_text}
use Rattle.calendar.specs.Durations.{duration_of, duration_is, period_end_of, period_end_is, period_end_text}
use Rattle.calendar.specs.declared.texts.Form.TheVariants.{Date, Time, DateTime, Offset}
use Rattle.calendar.proofs.Readback.{capital, capital-upper, capital-printable, Returned, form-returned, duration-returned, period-end-returned}
use Rattle.json_text.specs.Tree.{Json, falsity, truth, str, arr, no_items, item, string?, number?, boolean?, array?, list_of_items, octets_of, elements}
use Rattle.values.specs.Sorts.{Sort, plain, binary, boolean, date, date_time, duration, period, time, utc_offset}
use Rattle.values.specs.Simple.{binary_is, boolean_of, boolean_text}
use Rattle.values.specs.Read.{read_plain, read_binary, as_string, period_of, read_period}
use Rattle.values.specs.Write.{is_string, is_lettered, is_two, is_array, value_is, period_text, value_text}
use Rattle.values.proofs.Neat.{Neat, n-false, n-true, n-str, n-arr, n-none, n-item, clean-textual}
use Rattle.values.proofs.ListLaws.{ItemLaw, CommaLaw, ListLaw}

-- no comma comes in by uppercase
free-octet : (c : ℕ) → eqb c (code ",") ≡ false → eqb (upper_octet c) (code ",") ≡ false
free-octet c h = cases (is_lower c)
    (λ e. rw (upper-octet-is c e) (ne_eqb (c - 32) (code ",") (λ q. omega (arith, (is_lower-range c e).0))))
    (λ e. rw (upper-octet-other c e) h)

pub free-upper : (s : List ℕ) → Free (code ",") s → Free (code ",") (upper s)
unfolding upper
free-upper [] h = tt
free-upper (c ∷ s) h = (free-octet c h.0, free-upper s h.1)

-- kept as it is
module _ (sort : Sort) (R : List ℕ → Option Json) (p : List ℕ → Bool) (reads : (s : List ℕ) → R s ≡ when (p s) (str s))
    (is : (s : List ℕ) → value_is sort (str s) ≡ p s) (text : (s : List ℕ) → value_text sort (str s) ≡ s) where
  kept-item : ItemLaw sort R
  kept-item s j e =
      let w = when-is (p s) (str s) j (sym (reads s) ∙ e) in
      rw (← w.1) (record {
        again = rw (text s) (reads s ∙ when_true (p s) (str s) w.0);
        is = is s ∙ w.0;
        line = λ c. rw (text s) c;
        neat = λ c. n-str (clean-textual s c);
      })

pub plain-law : ItemLaw plain read_plain
plain-law = kept-item plain read_plain (all plain_octet) (λ s. unfold read_plain in refl) (λ s. unfold value_is is_string holds string? in refl)
    (λ s. unfold value_text octets_of number? string? given in refl)

pub binary-law : ItemLaw binary read_binary
binary-law = kept-item binary read_binary binary_is (λ s. unfold read_binary in refl) (λ s. unfold value_is is_string holds string? in refl)
    (λ s. unfold value_text octets_of number? string? given in refl)

-- a rule of uppercase, whose value is written back as the text that was read
pub record Back (sort : Sort) (u : List ℕ) (j : Json) : Type 0 where
  pub text : value_text sort j ≡ u
  pub is : value_is sort j ≡ true
  pub neat : Neat 2 j

module _ (sort : Sort) (R rule : List ℕ → Option Json) (reads : (s : List ℕ) → R s ≡ rule (upper s)) (back : (u : List ℕ) (j : Json) → rule u ≡ some j → Back sort u j) where
  raised-item : ItemLaw sort R
  raised-item s j e =
      let f : rule (upper s) ≡ some j = sym (reads s) ∙ e in
      let b = back (upper s) j f in
      record {
        again = rw b.text (reads (upper s) ∙ rw (upper-twice s) f);
        is = b.is;
        line = λ c. rw b.text (clean-upper s ∙ c);
        neat = λ c. b.neat;
      }

  raised-comma : CommaLaw sort R
  raised-comma s j f e = rw (back (upper s) j (sym (reads s) ∙ e)).text (free-upper s f)

  raised-law : ListLaw sort R
  raised-law = (raised-item, raised-comma)

-- texts of a fixed form, and durations
pub capital-neat : {d : ℕ} (t : List ℕ) → all capital t ≡ true → Neat d (str t)
capital-neat t h = n-str (clean-textual t (printable-clean t (capital-printable t h)))

module _ (sort : Sort) (f : List ℕ → Option (List ℕ)) (is : List ℕ → Bool) (text : List ℕ → List ℕ) (law : (s t : List ℕ) → f s ≡ some t → Returned is text s t)
    (tests : (t : List ℕ) → value_is sort (str t) ≡ is (upper t)) (writes : (t : List ℕ) → value_text sort (str t) ≡ text (upper t)) where
  string-back : (u : List ℕ) (j : Json) → map? str (f u) ≡ some j → Back sort u j
  string-back u j e = map_is str (f u) j e (λ t q w.
      let r = law u t q in
      let c = capital-upper t r.plain in
      rw (← w) (record { text = writes t ∙ rw c r.back; is = tests t ∙ rw c r.again; neat = capital-neat t r.plain }))

  string-law : ListLaw sort (as_string f)
  string-law = raised-law sort (as_string f) (λ u. map? str (f u)) (λ s. unfold as_string in refl) string-back

-- a string's test and text
lettered : (sort : Sort) (is : List ℕ → Bool) → ((j : Json) → value_is sort j ≡ is_lettered is j) → (t : List ℕ) → value_is sort (str t) ≡ is (upper t)
unfolding is_lettered holds string?
lettered sort is e t = e (str t)

written : (sort : Sort) (text : List ℕ → List ℕ) → ((j : Json) → value_text sort j ≡ text (upper (octets_of j))) → (t : List ℕ) → value_text sort (str t) ≡ text (upper t)
unfolding octets_of number? string? given
written sort text e t = e (str t)

pub date-law : ListLaw date (as_string date_of)
date-law = string-law date date_of date_is date_text (form-returned Date) (lettered date date_is (λ j. unfold value_is in refl)) (written date date_text (λ j. unfold value_text in refl))

pub time-law : ListLaw time (as_string time_of)
time-law = string-law time time_of time_is time_text (form-returned Time) (lettered time time_is (λ j. unfold value_is in refl)) (written time time_text (λ j. unfold value_text in refl))

pub date-time-law : ListLaw date_time (as_string date_time_of)
date-time-law = string-law date_time date_time_of date_time_is date_time_text (form-returned DateTime) (lettered date_time date_time_is (λ j. unfold value_is in refl))
    (written date_time date_time_text (λ j. unfold value_text in refl))

pub offset-law : ListLaw utc_offset (as_string offset_of)
offset-law = string-law utc_offset offset_of offset_is offset_text (form-returned Offset) (lettered utc_offset offset_is (λ j. unfold value_is in refl))
    (written utc_offset offset_text (λ j. unfold value_text in refl))

pub duration-law : ListLaw duration (as_string duration_of)
duration-law = string-law duration duration_of duration_is (λ t. t) duration-returned (lettered duration duration_is (λ j. unfold value_is in refl))
    (written duration (λ t. t) (λ j. unfold value_text in refl))

-- booleans
true-back : (u : List ℕ) → same u (octets "TRUE") ≡ true → Back boolean u truth
true-back u h = record {
  text = unfold value_text boolean? given boolean_text in sym (same-is u (octets "TRUE") h);
  is = unfold value_is boolean? is_some in refl;
  neat = n-true;
}

false-back : (u : List ℕ) → same u (octets "FALSE") ≡ true → Back boolean u falsity
false-back u h = record {
  text = unfold value_text boolean? given boolean_text in sym (same-is u (octets "FALSE") h);
  is = unfold value_is boolean? is_some in refl;
  neat = n-false;
}

boolean-back : (u : List ℕ) (j : Json) → boolean_of u ≡ some j → Back boolean u j
unfolding boolean_of or? when
boolean-back u j e =
    cases (same u (octets "TRUE")) (λ a. rw (← (some_same (rw a at e))) (true-back u a)) λ a.
    cases (same u (octets "FALSE")) (λ b. rw (← (some_same (rw (a, b) at e))) (false-back u b)) λ b.
    missing (rw (a, b) at e)

pub boolean-law : ListLaw boolean (λ v. boolean_of (upper v))
boolean-law = raised-law boolean (λ v. boolean_of (upper v)) boolean_of (λ s. refl) boolean-back

-- periods
module _ (x y : List ℕ) (hx : all capital x ≡ true) (hy : all capital y ≡ true) where
  pair-text : value_text period (arr (item (str x) (item (str y) no_items))) ≡ joined (code "/") (date_time_text x ∷ period_end_text y ∷ [])
  unfolding value_text elements array? given list_of_items period_text octets_of number? string?
  pair-text = rw (capital-upper x hx, capital-upper y hy)

  pair_is : date_time_is x ≡ true → period_end_is y ≡ true → value_is period (arr (item (str x) (item (str y) no_items))) ≡ true
  unfolding value_is is_array is_two is_lettered holds array? list_of_items string?
  pair_is a b = rw (capital-upper x hx, capital-upper y hy, a, b)

pair-back : (a b x y : List ℕ) → date_time_of a ≡ some x → period_end_of b ≡ some y → Back period (joined (code "/") (a ∷ b ∷ [])) (arr (item (str x) (item (str y) no_items)))
pair-back a b x y e f =
    let r = form-returned DateTime a x e in
    let q = period-end-returned b y f in
    record {
      text = pair-text x y r.plain q.plain ∙ rw (r.back, q.back);
      is = pair_is x y r.plain q.plain r.again q.again;
      neat = n-arr (n-item (capital-neat x r.plain) (n-item (capital-neat y q.plain) n-none));
    }

pieces-back : (ls : List (List ℕ)) (j : Json) → period_of ls ≡ some j → Back period (joined (code "/") ls) j
unfolding period_of
pieces-back [] j e = missing e
pieces-back (a ∷ []) j e = missing e
pieces-back (a ∷ b ∷ []) j e = both_is (λ x y. arr (item (str x) (item (str y) no_items))) (date_time_of a) (period_end_of b) j e (λ x y p q w. rw (← w) (pair-back a b x y p q))
pieces-back (a ∷ b ∷ c ∷ ls) j e = missing e

period-back : (u : List ℕ) (j : Json) → period_of (split (code "/") u) ≡ some j → Back period u j
period-back u j e = rw (joined-split (code "/") u) at (pieces-back (split (code "/") u) j e)

pub period-law : ListLaw period read_period
period-law = raised-law period read_period (λ u. period_of (split (code "/") u)) (λ s. unfold read_period in refl) period-back
