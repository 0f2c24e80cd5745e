-- Texts of a fixed form as the code has them: what one says, which places its form has, and that the tests are the definitions'.
use Prim.Native.Nat.{ℕ}
use Prim.Native.Char.{code}
use mathlib.Core.Path.{◌≡◌, refl, sym, ap, ◌∙◌}
use mathlib.Core.Bool.{Bool, true, false}
use mathlib.Core.List.{List, [], ◌∷◌, ◌++◌}
use mathlib.Core.Option.{Option, none, some}
use lib.Dec.{leb}
use lib.ListN.{length}
use Rattle.octets.specs.Basics.{octets, ◌and◌}
use Rattle.octets.specs.Optional.{is_some, when, guard}
use Rattle.octets.specs.Classes.{upper}
use Rattle.octets.proofs.Cases.{cases}
use Rattle.octets.proofs.Classes.{upper-length}
use Rattle.calendar.specs.Forms.{Slot, digit, letter, added, fits, extended, fits_either, keeps, basic, date_form, clock_form, utc, time_form, date_time_form, offset_form}
use Rattle.calendar.specs.Dates.{clock_in, moment_in, offset_in, date_of, time_of, date_time_of, offset_of, date_is, time_is, date_time_is, offset_is, date_text, time_text, date_time_text, offset_text}
use Rattle.calendar.specs.Texts.{form_of, form_is, form_text, is_added, place_at, slot_at, slots, long_from, shape, shaped, numbers_in, read_form}
pub use Rattle.calendar.specs.Texts.{form_for}
use Rattle.calendar.specs.declared.texts.Form.{Form}
use Rattle.calendar.specs.declared.texts.Form.TheVariants.{Date, Time, DateTime, Offset}
use Rattle.calendar.proofs.Extended.{width, read-by-length, fits-by-length, basic-front}
use Rattle.calendar.proofs.Slots.{whole-text}

-- The places of a form as octets read and write by that form.
pub reads-shape : (whole : Bool) (f : Form) (form s : List ℕ) → slots false form ≡ shape whole f s → extended (slots whole form) s ≡ shaped whole f s
unfolding shaped
reads-shape true f form s e = whole-text form s ∙ ap (λ g. when (fits g s) s) e
reads-shape false f form s e = ap (λ g. extended g s) e

pub form-taken : (f : Form) (s : List ℕ) → read_form false f s ≡ form_of f s
unfolding read_form shaped shape numbers_in date_of time_of date_time_of offset_of width keeps date_form clock_form utc time_form date_time_form offset_form
form-taken Date s = refl
form-taken Time s = ap (guard (clock_in 0)) (sym (read-by-length time_form 7 refl refl s))
form-taken DateTime s = ap (guard moment_in) (sym (read-by-length date_time_form 16 refl refl s))
form-taken Offset s = ap (guard offset_in) (sym (read-by-length offset_form 6 refl refl s))

guard-when : (p : List ℕ → Bool) (b : Bool) (t : List ℕ) → is_some (guard p (when b t)) ≡ (b and p t)
unfolding guard when is_some
guard-when p false t = refl
guard-when p true t = at (p t)
  where
    at : (b : Bool) → is_some (when b t) ≡ b
    at true = unfold when is_some in refl
    at false = unfold when is_some in refl

pub form-is : (f : Form) (t : List ℕ) → is_some (read_form true f t) ≡ form_is f t
unfolding read_form shaped shape numbers_in date_is time_is date_time_is offset_is date_form clock_form utc time_form date_time_form offset_form
form-is Date t = guard-when _ _ t
form-is Time t = guard-when _ _ t ∙ ap (λ b. b and clock_in 0 t) (sym (fits-by-length time_form 9 refl refl t))
form-is DateTime t = guard-when _ _ t ∙ ap (λ b. b and moment_in t) (sym (fits-by-length date_time_form 20 refl refl t))
form-is Offset t = guard-when _ _ t ∙ ap (λ b. b and offset_in t) (sym (fits-by-length offset_form 7 refl refl t))

-- the places of each form as the code writes them, longer or not
abbrev pub places : Form → Bool → List ℕ
places Date b = octets "9999-99-99"
places Time true = octets "99:99:99Z"
places Time false = octets "99:99:99"
places DateTime true = octets "9999-99-99T99:99:99Z"
places DateTime false = octets "9999-99-99T99:99:99"
places Offset true = octets "+99:99:99"
places Offset false = octets "+99:99"

-- a text is written by the longer form, of which the other is the beginning
pub form-text : (f : Form) (t : List ℕ) → form_text f t ≡ basic (form_for f true) t
unfolding date_text time_text date_time_text offset_text
form-text Date t = refl
form-text Time t = refl
form-text DateTime t = refl
form-text Offset t = refl

abbrev form_end : Form → List Slot
form_end Date = []
form_end Time = letter (code "Z") ∷ []
form_end DateTime = letter (code "Z") ∷ []
form_end Offset = added (code ":") ∷ digit ∷ digit ∷ []

pub longer-written : (f : Form) (b : Bool) (t : List ℕ) → fits (form_for f b) t ≡ true → basic (form_for f true) t ≡ basic (form_for f b) t
longer-written f true t h = refl
longer-written f false t h = ap (λ g. basic g t) (longer f) ∙ basic-front (form_for f false) (form_end f) t h
  where
    longer : (f : Form) → form_for f true ≡ form_for f false ++ form_end f
    longer Date = unfold date_form in refl
    longer Time = unfold time_form utc in refl
    longer DateTime = unfold date_time_form utc in refl
    longer Offset = unfold offset_form clock_form in refl

pub is-by : (f : Form) (t : List ℕ) → form_is f t ≡ (fits_either (form_for f) t and numbers_in f t)
unfolding fits_either numbers_in date_is time_is date_time_is offset_is
is-by Date t = cases (fits date_form t) (λ e. rw e) (λ e. rw e)
is-by Time t = refl
is-by DateTime t = refl
is-by Offset t = refl

places-form : (f : Form) (b : Bool) → slots false (places f b) ≡ form_for f b
unfolding slots slot_at is_added place_at date_form clock_form utc time_form date_time_form offset_form
places-form Date b = refl
places-form Time true = refl
places-form Time false = refl
places-form DateTime true = refl
places-form DateTime false = refl
places-form Offset true = refl
places-form Offset false = refl

shape-places : (whole : Bool) (f : Form) (s : List ℕ) (b : Bool) → leb (long_from whole f) (length s) ≡ b → slots false (places f b) ≡ shape whole f (upper s)
unfolding shape
shape-places whole f s b e = places-form f b ∙ sym (ap (λ n. form_for f (leb (long_from whole f) n)) (upper-length s) ∙ ap (form_for f) e)

-- what is read by its places, and what is written by them
pub read_by : (whole b : Bool) (f : Form) (s : List ℕ) → leb (long_from whole f) (length s) ≡ b → {g : Form} → g ≡ f → {r : Option (List ℕ)}
    → r ≡ extended (slots whole (places f b)) (upper s) → r ≡ shaped whole g (upper s)
read_by whole b f s e i r = rw i (r ∙ reads-shape whole f (places f b) (upper s) (shape-places whole f s b e))

pub written-by : (f : Form) (s : List ℕ) {g : Form} → g ≡ f → {t : List ℕ} → t ≡ basic (slots false (places f true)) (upper s) → t ≡ form_text g (upper s)
written-by f s i r = rw i (r ∙ ap (λ g. basic g (upper s)) (places-form f true) ∙ sym (form-text f (upper s)))

-- a text that is read passes the test of its numbers, or fails it, or there is none
pub passes : (whole : Bool) (f : Form) (s t : List ℕ) → some t ≡ shaped whole f s → numbers_in f t ≡ true → some t ≡ read_form whole f s
unfolding read_form guard when
passes whole f s t r p = rw (← r, p)

pub fails : (whole : Bool) (f : Form) (s t : List ℕ) → some t ≡ shaped whole f s → numbers_in f t ≡ false → none ≡ read_form whole f s
unfolding read_form guard when
fails whole f s t r p = rw (← r, p)

pub lacks : (whole : Bool) (f : Form) (s : List ℕ) → none ≡ shaped whole f s → none ≡ read_form whole f s
unfolding read_form guard
lacks whole f s r = rw (← r)
