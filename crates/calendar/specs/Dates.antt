-- Dates, times, date-times and UTC offsets (01, Values; RFC 5545 3.3.4, 3.3.5, 3.3.12, 3.3.14). All texts are in uppercase here.
-- `x_of` reads the iCalendar text into jCal's; `x_is` tests a jCal text, and `x_text` writes it for iCalendar (of any other text, the octets at the places that
-- the basic form has). Numbers are tested in jCal's form, for both.
use Rattle.std.specs.Prelude.{ℕ, ◌+◌, Bool, true, not, List, eqb, leb}
use Rattle.std.proofs.Math.Option.{Option}
use Rattle.octets.specs.Basics.{◌and◌, ◌or◌}
use Rattle.octets.specs.Optional.{or?, guard}
use Rattle.octets.specs.Decimal.{minus}
use Rattle.calendar.specs.Gregorian.{is_day}
use Rattle.calendar.specs.Forms.{fits, extended, fits_either, extended_either, basic, date_form, time_form, date_time_form, offset_form, number_at}

-- yyyy-mm-dd at the front of a text is a day
unfoldable pub day_in : List ℕ → Bool
day_in t = is_day (number_at 0 4 t) (number_at 5 2 t) (number_at 8 2 t)

-- hour 0 to 23, minute 0 to 59, second 0 to 60
unfoldable pub is_clock : ℕ → ℕ → ℕ → Bool
is_clock h m s = leb h 23 and leb m 59 and leb s 60

-- hh:mm:ss at a place of a text is a time; seconds that are not there count as 0
unfoldable pub clock_in : ℕ → List ℕ → Bool
clock_in at t = is_clock (number_at at 2 t) (number_at (at + 3) 2 t) (number_at (at + 6) 2 t)

-- RFC 5545 3.3.4
unfoldable pub date_of : List ℕ → Option (List ℕ)
date_of s = guard day_in (extended date_form s)

unfoldable pub date_is : List ℕ → Bool
date_is t = fits date_form t and day_in t

unfoldable pub date_text : List ℕ → List ℕ
date_text t = basic date_form t

-- RFC 5545 3.3.12: without or with the Z of UTC
unfoldable pub time_of : List ℕ → Option (List ℕ)
time_of s = guard (clock_in 0) (extended_either time_form s)

unfoldable pub time_is : List ℕ → Bool
time_is t = fits_either time_form t and clock_in 0 t

-- the form without Z is the beginning of the other
unfoldable pub time_text : List ℕ → List ℕ
time_text t = basic (time_form true) t

-- RFC 5545 3.3.5: without or with the Z of UTC
unfoldable pub moment_in : List ℕ → Bool
moment_in t = day_in t and clock_in 11 t

unfoldable pub date_time_of : List ℕ → Option (List ℕ)
date_time_of s = guard moment_in (extended_either date_time_form s)

unfoldable pub date_time_is : List ℕ → Bool
date_time_is t = fits_either date_time_form t and moment_in t

unfoldable pub date_time_text : List ℕ → List ℕ
date_time_text t = basic (date_time_form true) t

-- a date or a date-time, as UNTIL has it (RFC 5545 3.3.10)
unfoldable pub moment_of : List ℕ → Option (List ℕ)
moment_of s = or? (date_of s) (date_time_of s)

unfoldable pub moment_is : List ℕ → Bool
moment_is t = date_is t or date_time_is t

-- a date's form, too, is the beginning of a date-time's
unfoldable pub moment_text : List ℕ → List ℕ
moment_text t = date_time_text t

-- RFC 5545 3.3.14: sign, hhmm, optional ss; no minus before zeros
unfoldable pub offset_in : List ℕ → Bool
offset_in t = clock_in 1 t and not (minus t and eqb (number_at 1 2 t) 0 and eqb (number_at 4 2 t) 0 and eqb (number_at 7 2 t) 0)

unfoldable pub offset_of : List ℕ → Option (List ℕ)
offset_of s = guard offset_in (extended_either offset_form s)

unfoldable pub offset_is : List ℕ → Bool
offset_is t = fits_either offset_form t and offset_in t

unfoldable pub offset_text : List ℕ → List ℕ
offset_text t = basic (offset_form true) t
