-- Texts of a fixed form as the code has them: which form, and the form's places written as octets.
use Rattle.std.specs.Prelude.{ℕ, Bool, true, false, not, List, map, eqb, leb, length}
use Prim.Native.Char.{code}
use Rattle.std.proofs.Math.Option.{Option}
use Rattle.octets.specs.Basics.{pick, ◌and◌, ◌or◌}
use Rattle.octets.specs.Optional.{when, guard}
use Rattle.calendar.specs.Forms.{Slot, digit, sign, letter, added, fits, extended, date_form, time_form, date_time_form, offset_form}
use Rattle.calendar.specs.Dates.{day_in, clock_in, moment_in, offset_in, date_of, time_of, date_time_of, offset_of, date_is, time_is, date_time_is, offset_is, date_text, time_text, date_time_text, offset_text}
use Rattle.calendar.specs.declared.moments.Kind.{Kind}
use Rattle.calendar.specs.declared.moments.Kind.TheVariants.{Day, Local, Utc}
use Rattle.calendar.specs.declared.texts.Form.{Form}
use Rattle.calendar.specs.declared.texts.Form.TheVariants.{Date, Time, DateTime, Offset}

-- what is read, tested and written, by the form
abbrev pub form_of : Form → List ℕ → Option (List ℕ)
form_of Date s = date_of s
form_of Time s = time_of s
form_of DateTime s = date_time_of s
form_of Offset s = offset_of s

abbrev pub form_is : Form → List ℕ → Bool
form_is Date t = date_is t
form_is Time t = time_is t
form_is DateTime t = date_time_is t
form_is Offset t = offset_is t

abbrev pub form_text : Form → List ℕ → List ℕ
form_text Date t = date_text t
form_text Time t = time_text t
form_text DateTime t = date_time_text t
form_text Offset t = offset_text t

-- The places of a form: 9 is a digit, plus a sign, and any other octet is itself; but hyphen and colon are places that only the extended form
-- has, unless a text is whole, that is in the extended form.
unfoldable pub is_added : Bool → ℕ → Bool
is_added whole c = not whole and (eqb c (code "-") or eqb c (code ":"))

unfoldable pub place_at : ℕ → Slot
place_at c = pick (eqb c (code "9")) digit (pick (eqb c (code "+")) sign (letter c))

unfoldable pub slot_at : Bool → ℕ → Slot
slot_at whole c = pick (is_added whole c) (added c) (place_at c)

unfoldable pub slots : Bool → List ℕ → List Slot
slots whole form = map (slot_at whole) form

-- the places of a form with its end or without it, and the length from which on a text has the end: of one in the extended form, or of one in the basic form
abbrev pub form_for : Form → Bool → List Slot
form_for Date b = date_form
form_for Time b = time_form b
form_for DateTime b = date_time_form b
form_for Offset b = offset_form b

abbrev pub long_from : Bool → Form → ℕ
long_from whole Date = 0
long_from whole Time = pick whole 9 7
long_from whole DateTime = pick whole 20 16
long_from whole Offset = pick whole 7 6

-- the form of a text, which its length decides
unfoldable pub shape : Bool → Form → List ℕ → List Slot
shape whole f s = form_for f (leb (long_from whole f) (length s))

-- the extended text of a text that has the form
unfoldable pub shaped : Bool → Form → List ℕ → Option (List ℕ)
shaped true f s = when (fits (shape true f s) s) s
shaped false f s = extended (shape false f s) s

-- the kind of a moment whose text has so many octets in the extended form
unfoldable pub kind_at : ℕ → Kind
kind_at n = pick (leb n 10) Day (pick (leb n 19) Local Utc)

-- its numbers are real
unfoldable pub numbers_in : Form → List ℕ → Bool
numbers_in Date t = day_in t
numbers_in Time t = clock_in 0 t
numbers_in DateTime t = moment_in t
numbers_in Offset t = offset_in t

-- the extended text of one that is read
unfoldable pub read_form : Bool → Form → List ℕ → Option (List ℕ)
read_form whole f s = guard (numbers_in f) (shaped whole f s)
