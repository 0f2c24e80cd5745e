-- The texts that values are written as are clean: fixed forms, durations, binary and numbers.
use Prim.Native.Nat.{ℕ, ◌+◌, ◌-◌, ◌%◌}
use Prim.Native.Char.{code}
use mathlib.Core.Path.{◌≡◌, refl, sym, ap, ◌∙◌}
use mathlib.Core.Bool.{Bool, true, false, not}
use mathlib.Core.List.{List, [], ◌∷◌}
use native.Mathlib.Omega.{arith}
use borrow.Author.Tests.{eqb-true}
use lib.Dec.{eqb}
use lib.ListN.{length, get_or, take}
use lib.Seq.{take_all}
use Rattle.octets.specs.Basics.{all, All}
use Rattle.octets.specs.Pieces.{split, joined}
use Rattle.octets.specs.Optional.{is_some, when}
use Rattle.octets.specs.Classes.{between, is_digit, is_upper, is_lower, is_letter}
use Rattle.octets.specs.Utf8.{clean}
use Rattle.octets.specs.Decimal.{is_sign, digits, minus, unsigned, integer_text}
use Rattle.octets.proofs.Cases.{cases, never, both, and-true, either, all_weaker, all_append}
use Rattle.octets.proofs.Classes.{between-true, within-between}
use Rattle.octets.proofs.Pieces.{joined-split}
use Rattle.octets.proofs.Positions.{taken}
use Rattle.octets.proofs.Utf8.{printable-clean}
use Rattle.octets.proofs.Decimal.{digits-all}
use Rattle.calendar.specs.Dates.{date_is, time_is, date_time_is, offset_is, date_text, time_text, date_time_text, offset_text}
use Rattle.calendar.specs.Durations.{duration_is, forward_is, period_end_is, period_end_text}
use Rattle.calendar.specs.declared.texts.Form.TheVariants.{Date, Time, DateTime, Offset}
use Rattle.calendar.proofs.Readback.{capital, capital-printable, form-capital, duration-capital}
use Rattle.content.proofs.WrittenOctets.{printable, joined-has}
use Rattle.values.specs.Simple.{base64_octet, unpadded, binary_is, pointed, float_of, integer_of}
use Rattle.values.proofs.NumberLaws.{integer-numeral, numeral-clean}

abbrev pub Clean : List ℕ → Type 0
Clean s = clean s ≡ true

abbrev Printable : List ℕ → Type 0
Printable s = all printable s ≡ true

-- classes of octets that are printable
digit-printable : (c : ℕ) → is_digit c ≡ true → printable c ≡ true
unfolding is_digit
digit-printable c h = let b = between-true (code "0") (code "9") c h in within-between 32 126 c (omega arith) (omega arith)

pub capitals-clean : (s : List ℕ) → all capital s ≡ true → Clean s
capitals-clean s h = printable-clean s (capital-printable s h)

sign-printable : (c : ℕ) → is_sign c ≡ true → printable c ≡ true
unfolding is_sign between
sign-printable c h = either (eqb c (code "+")) (eqb c (code "-")) h (λ e. rw (eqb-true c (code "+") e)) (λ e. rw (eqb-true c (code "-") e))

-- fixed forms
pub date-clean : (t : List ℕ) → date_is t ≡ true → Clean (date_text t)
date-clean t h = capitals-clean (date_text t) (form-capital Date t h)

pub time-clean : (t : List ℕ) → time_is t ≡ true → Clean (time_text t)
time-clean t h = capitals-clean (time_text t) (form-capital Time t h)

pub date-time-clean : (t : List ℕ) → date_time_is t ≡ true → Clean (date_time_text t)
date-time-clean t h = capitals-clean (date_time_text t) (form-capital DateTime t h)

pub offset-clean : (t : List ℕ) → offset_is t ≡ true → Clean (offset_text t)
offset-clean t h = capitals-clean (offset_text t) (form-capital Offset t h)

-- durations and the ends of periods
pub duration-clean : (t : List ℕ) → duration_is t ≡ true → Clean t
duration-clean t h = capitals-clean t (duration-capital t h)

pub period-end-clean : (t : List ℕ) → period_end_is t ≡ true → Clean (period_end_text t)
unfolding period_end_is period_end_text forward_is
period-end-clean t h = cases (date_time_is t)
    (λ e. rw e (date-time-clean t e))
    (λ e. rw e (duration-clean t (both (not (minus t)) (duration_is t) (rw e at h)).1))

-- binary
base64-printable : (c : ℕ) → base64_octet c ≡ true → printable c ≡ true
unfolding base64_octet is_letter is_upper is_lower
base64-printable c h = either (is_letter c) _ h
    (λ e. either (is_upper c) (is_lower c) e
    (λ d. let b = between-true (code "A") (code "Z") c d in within-between 32 126 c (omega arith) (omega arith))
    (λ d. let b = between-true (code "a") (code "z") c d in within-between 32 126 c (omega arith) (omega arith)))
    (λ k. either (is_digit c) _ k (digit-printable c)
    (λ m. either (eqb c (code "+")) (eqb c (code "/")) m
    (λ e. rw (eqb-true c (code "+") e) (unfold between in refl))
    (λ e. rw (eqb-true c (code "/") e) (unfold between in refl))))

padding-printable : (s : List ℕ) → Printable (unpadded s) → Printable s
unfolding unpadded
padding-printable s h = cases (eqb (get_or s (length s - 1) 0) (code "=")) (λ e. last s e (rw e at h)) (λ n. rw n at h)
  where
    padding : (c : ℕ) → eqb c (code "=") ≡ true → Printable (c ∷ [])
    padding c e = unfold all in rw (eqb-true c (code "=") e) (unfold between in refl)

    last : (s : List ℕ) → eqb (get_or s (length s - 1) 0) (code "=") ≡ true → Printable (take (length s - 1) s) → Printable s
    last [] e h = h
    last (c ∷ s) e h =
        let n = length (c ∷ s) - 1 in
        let w : take (n + 1) (c ∷ s) ≡ c ∷ s = take_all (n + 1) (c ∷ s) (omega arith) in
        sym (ap (all printable) w) ∙ ap (all printable) (taken (c ∷ s) n (omega arith))
        ∙ all_append printable (take n (c ∷ s)) (get_or (c ∷ s) n 0 ∷ []) ∙ and-true h (padding (get_or (c ∷ s) n 0) e)

pub binary-clean : (s : List ℕ) → binary_is s ≡ true → Clean s
unfolding binary_is
binary-clean s h =
    printable-clean s (padding-printable s (padding-printable (unpadded s) (all_weaker base64_octet printable base64-printable (unpadded (unpadded s)) (both (eqb (length s % 4) 0) _ h).1)))

-- numbers
digits-printable : (s : List ℕ) → digits s ≡ true → Printable s
digits-printable s h = all_weaker is_digit printable digit-printable s (digits-all s h)

pieces-printable : (ls : List (List ℕ)) → pointed ls ≡ true → All Printable ls
unfolding pointed
pieces-printable [] h = never h refl
pieces-printable (w ∷ []) h = (digits-printable w h, tt)
pieces-printable (w ∷ f ∷ []) h = let b = both (digits w) (digits f) h in (digits-printable w b.0, (digits-printable f b.1, tt))
pieces-printable (w ∷ f ∷ g ∷ ls) h = never h refl

unsigned-printable : (s : List ℕ) → Printable (unsigned s) → Printable s
unfolding unsigned all
unsigned-printable [] h = refl
unsigned-printable (c ∷ s) h = cases (is_sign c) (λ e. and-true (sign-printable c e) (rw e at h)) (λ e. rw e at h)

printable-joined : (sep : ℕ) → printable sep ≡ true → (ls : List (List ℕ)) → All Printable ls → Printable (joined sep ls)
printable-joined sep e ls h = joined-has Printable (λ s k. k) (λ s t h k. all_append printable s t ∙ and-true h k) sep e ls h

when-some : {A : Type 0} (b : Bool) (a : A) → is_some (when b a) ≡ true → b ≡ true
unfolding is_some when
when-some true a h = refl
when-some false a h = h

pub float-clean : (s : List ℕ) → is_some (float_of s) ≡ true → Clean s
unfolding float_of
float-clean s h =
    let ps = split (code ".") (unsigned s) in
    printable-clean s (unsigned-printable s (rw (joined-split (code ".") (unsigned s)) at (printable-joined (code ".") (unfold between in refl) ps (pieces-printable ps (when-some _ _ h)))))

pub integer-clean : (s : List ℕ) → is_some (integer_of s) ≡ true → Clean (integer_text s)
unfolding integer_of
integer-clean s h = numeral-clean (integer-numeral s (both (digits (unsigned s)) _ (when-some _ _ h)).0)
