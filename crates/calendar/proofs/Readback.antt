-- What is read is written back: for each form, the extended text that is read has the extended form, its basic text is the one that was read, and
-- both are printable ASCII without lowercase letters. The same for moments, durations and the ends of periods.
use Prim.Native.Nat.{ℕ}
use Prim.Native.Char.{code}
use mathlib.Core.Path.{◌≡◌, refl, sym, ◌∙◌}
use mathlib.Core.Bool.{Bool, true, false, not, false≢true}
use mathlib.Core.List.{List, [], ◌∷◌, ◌++◌}
use mathlib.Core.Option.{some}
use native.Mathlib.Omega.{arith}
use borrow.Author.Tests.{eqb-true}
use lib.Dec.{eqb, leb}
use lib.ListN.{length, get_or}
use Rattle.octets.specs.Basics.{all, among}
use Rattle.octets.specs.Optional.{when}
use Rattle.octets.specs.Classes.{between, is_digit, is_lower, upper_octet, upper}
use Rattle.octets.specs.Decimal.{is_sign, minus, unsigned}
use Rattle.octets.proofs.Cases.{cases, never, both, and-true, either, or-second, all_weaker, all_append}
use Rattle.octets.proofs.Classes.{between-true, within-between, below-between}
use Rattle.calendar.specs.Forms.{Slot, digit, sign, letter, added, takes, fits, extended, fits_either, keeps, basic, date_form, clock_form, utc, time_form, date_time_form, offset_form}
use Rattle.calendar.specs.Dates.{date_of, date_time_of, date_is, date_time_is, date_time_text, moment_of, moment_is, moment_text}
use Rattle.calendar.specs.Durations.{spans, letters, duration_is, duration_of, forward_is, period_end_of, period_end_is, period_end_text}
use Rattle.calendar.specs.Texts.{form_of, form_is, form_text, form_for, long_from, shape, shaped, numbers_in, read_form}
use Rattle.calendar.specs.declared.texts.Form.{Form}
use Rattle.calendar.specs.declared.texts.Form.TheVariants.{Date, Time, DateTime, Offset}
use Rattle.calendar.proofs.Options.{when-is, guard-is, or-tells}
use Rattle.calendar.proofs.Extended.{Fitted, fitted, fits-either, basic-front}
use Rattle.calendar.proofs.Fixed.{form-taken, is-by, form-text, longer-written}
use Rattle.calendar.proofs.Letters.{begins-no-digit, letters-all}
use Rattle.calendar.proofs.Octets.{unsigned-all, among-all}

-- printable ASCII without lowercase letters
abbrev pub capital : ℕ → Bool
capital c = between 32 95 c

pub capital-printable : (s : List ℕ) → all capital s ≡ true → all (between 32 126) s ≡ true
capital-printable s h = all_weaker capital (between 32 126) (λ c e. let b = between-true 32 95 c e in within-between 32 126 c (omega arith) (omega arith)) s h

pub capital-upper : (s : List ℕ) → all capital s ≡ true → upper s ≡ s
unfolding upper all
capital-upper [] h = refl
capital-upper (c ∷ s) h = let b = both (capital c) (all capital s) h in rw (stays c b.0, capital-upper s b.1)
  where
    stays : (c : ℕ) → capital c ≡ true → upper_octet c ≡ c
    stays c e = let b = between-true 32 95 c e in unfold upper_octet is_lower in rw (below-between (code "a") (code "z") c (omega arith))

-- a place takes such octets alone
unfoldable pub readable : Slot → Bool
readable digit = true
readable sign = true
readable (letter l) = capital l
readable (added a) = capital a

takes-capital : (p : Slot) (x : ℕ) → readable p ≡ true → takes p x ≡ true → capital x ≡ true
unfolding readable takes
takes-capital digit x r e = let b = between-true (code "0") (code "9") x (unfold is_digit in e) in within-between 32 95 x (omega arith) (omega arith)
takes-capital sign x r e =
    either (eqb x (code "+")) (eqb x (code "-")) (unfold is_sign in e)
    (λ q. rw (eqb-true x _ q) (unfold between in refl)) (λ q. rw (eqb-true x _ q) (unfold between in refl))
takes-capital (letter l) x r e = rw (eqb-true x l e) r
takes-capital (added a) x r e = rw (eqb-true x a e) r

pub fits-capital : (f : List Slot) (t : List ℕ) → all readable f ≡ true → fits f t ≡ true → all capital t ≡ true
unfolding fits all
fits-capital [] [] r h = refl
fits-capital [] (x ∷ t) r h = absurd (false≢true h)
fits-capital (p ∷ f) [] r h = absurd (false≢true h)
fits-capital (p ∷ f) (x ∷ t) r h =
    let a = both (readable p) (all readable f) r in
    let b = both (takes p x) (fits f t) h in
    and-true (takes-capital p x a.0 b.0) (fits-capital f t a.1 b.1)

form-readable : (f : Form) (b : Bool) → all readable (form_for f b) ≡ true
unfolding all readable between date_form clock_form utc time_form date_time_form offset_form
form-readable Date b = refl
form-readable Time true = refl
form-readable Time false = refl
form-readable DateTime true = refl
form-readable DateTime false = refl
form-readable Offset true = refl
form-readable Offset false = refl

basic-capital : (f : List Slot) (t : List ℕ) → all capital t ≡ true → all capital (basic f t) ≡ true
unfolding basic all
basic-capital [] t h = refl
basic-capital (p ∷ f) [] h = refl
basic-capital (p ∷ f) (x ∷ t) h =
    let b = both (capital x) (all capital t) h in
    all_append capital (keeps p x) (basic f t) ∙ and-true (kept p b.0) (basic-capital f t b.1)
  where
    kept : (p : Slot) → capital x ≡ true → all capital (keeps p x) ≡ true
    kept digit e = unfold keeps all in rw e
    kept sign e = unfold keeps all in rw e
    kept (letter l) e = unfold keeps all in rw e
    kept (added a) e = unfold keeps all in refl

-- such is what is written for a text that has its form
pub form-capital : (f : Form) (t : List ℕ) → form_is f t ≡ true → all capital (form_text f t) ≡ true
unfolding fits_either
form-capital f t h =
    either (fits (form_for f false) t) (fits (form_for f true) t) (both (fits_either (form_for f) t) _ (sym (is-by f t) ∙ h)).0 (written false) (written true)
  where
    written : (b : Bool) → fits (form_for f b) t ≡ true → all capital (form_text f t) ≡ true
    written b e = rw (form-text f t) (basic-capital (form_for f true) t (fits-capital (form_for f b) t (form-readable f b) e))

-- What is read as t is t in jCal, and s again in iCalendar.
pub record Returned (is : List ℕ → Bool) (text : List ℕ → List ℕ) (s t : List ℕ) : Type 0 where
  pub again : is t ≡ true
  pub back : text t ≡ s
  pub plain : all capital t ≡ true

module _ (f : Form) (s t : List ℕ) (e : form_of f s ≡ some t) where
  abbrev longer : Bool
  longer = leb (long_from false f) (length s)

  numbered : (extended (form_for f longer) s ≡ some t) × (numbers_in f t ≡ true)
  unfolding read_form shaped shape
  numbered = guard-is (numbers_in f) (shaped false f s) t (form-taken f s ∙ e)

  pub form-fitted : Fitted (form_for f longer) s t
  form-fitted = fitted (form_for f longer) s t numbered.0

  pub form-returned : Returned (form_is f) (form_text f) s t
  form-returned =
      record {
        again = is-by f t ∙ and-true (fits-either (form_for f) longer t form-fitted.has) numbered.1;
        back = form-text f t ∙ longer-written f longer t form-fitted.has ∙ form-fitted.back;
        plain = fits-capital (form_for f longer) t (form-readable f longer) form-fitted.has;
      }

-- a date's text is written by a date-time's form
date-moment : (s t : List ℕ) → date_of s ≡ some t → moment_text t ≡ s
unfolding moment_text date_time_text date_time_form date_form utc
date-moment s t e = let r = form-fitted Date s t e in basic-front date_form (letter (code "T") ∷ clock_form ++ letter (code "Z") ∷ []) t r.has ∙ r.back

pub moment-returned : (s t : List ℕ) → moment_of s ≡ some t → Returned moment_is moment_text s t
unfolding moment_of moment_is
moment-returned s t e =
    or-tells (date_of s) (date_time_of s) t e
    (λ a. let r = form-returned Date s t a in record { again = rw r.again; back = date-moment s t a; plain = r.plain })
    (λ n a. let r = form-returned DateTime s t a in record { again = or-second (date_is t) r.again; back = unfold moment_text in r.back; plain = r.plain })

-- durations
pub duration-capital : (s : List ℕ) → duration_is s ≡ true → all capital s ≡ true
unfolding duration_is
duration-capital s h =
    let b = both (among (letters (unsigned s)) spans) _ h in
    unsigned-all capital sign-capital s (letters-all capital digit-capital (unsigned s) (among-all capital (letters (unsigned s)) spans (unfold all spans between in refl) b.0))
  where
    digit-capital : (c : ℕ) → is_digit c ≡ true → capital c ≡ true
    digit-capital c e = takes-capital digit c (unfold readable in refl) (unfold takes in e)

    sign-capital : (c : ℕ) → is_sign c ≡ true → capital c ≡ true
    sign-capital c e = takes-capital sign c (unfold readable in refl) (unfold takes in e)

pub duration-returned : (s t : List ℕ) → duration_of s ≡ some t → Returned duration_is (λ u. u) s t
unfolding duration_of
duration-returned s t e =
    let w = when-is (duration_is s) s t e in
    let q : t ≡ s = sym w.1 in
    rw q (record { again = w.0; back = refl; plain = duration-capital s w.0 })

-- a date-time begins with a digit, and a duration does not
first-digit : (b : Bool) (t : List ℕ) → fits (date_time_form b) t ≡ true → is_digit (get_or t 0 0) ≡ true
unfolding date_time_form utc date_form fits takes
first-digit true [] h = absurd (false≢true h)
first-digit true (x ∷ t) h = (both (is_digit x) _ h).0
first-digit false [] h = absurd (false≢true h)
first-digit false (x ∷ t) h = (both (is_digit x) _ h).0

date-time-first : (t : List ℕ) → date_time_is t ≡ true → is_digit (get_or t 0 0) ≡ true
unfolding date_time_is fits_either
date-time-first t h =
    either (fits (date_time_form false) t) (fits (date_time_form true) t) (both (fits_either date_time_form t) _ h).0 (first-digit false t) (first-digit true t)

no-date-time : (s : List ℕ) → duration_is s ≡ true → date_time_is s ≡ false
no-date-time s h = cases (date_time_is s) (λ e. never (date-time-first s e) (begins-no-digit s h)) (λ e. e)

pub period-end-returned : (s t : List ℕ) → period_end_of s ≡ some t → Returned period_end_is period_end_text s t
unfolding period_end_of period_end_is period_end_text
period-end-returned s t e =
    or-tells (date_time_of s) (when (forward_is s) s) t e
    (λ a. let r = form-returned DateTime s t a in record { again = rw r.again; back = rw r.again r.back; plain = r.plain })
    (λ n a.
    let w = when-is (forward_is s) s t a in
    let d : duration_is s ≡ true = unfold forward_is in (both (not (minus s)) (duration_is s) w.0).1 in
    let q : t ≡ s = sym w.1 in
    rw q (record { again = or-second (date_time_is s) w.0; back = rw (no-date-time s d); plain = duration-capital s d }))
