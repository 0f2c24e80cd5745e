-- Durations and the ends of periods (01, Values; RFC 5545 3.3.6, 3.3.9). All texts are in uppercase here; jCal keeps a duration as it is.
use Rattle.std.specs.Prelude.{ℕ, Bool, not, List, [], ◌∷◌, eqb}
use Prim.Native.Char.{code}
use Rattle.std.proofs.Math.Option.{Option}
use Rattle.octets.specs.Basics.{octets, pick, ◌and◌, ◌or◌, among}
use Rattle.octets.specs.Optional.{or?, when}
use Rattle.octets.specs.Classes.{is_digit}
use Rattle.octets.specs.Decimal.{minus, unsigned}
use Rattle.calendar.specs.Dates.{date_time_of, date_time_is, date_time_text}

-- what is left of a duration without its sign and its digits: weeks stand alone; minutes may not be skipped between hours and seconds
unfoldable pub spans : List (List ℕ)
spans =
    octets "PW" ∷ octets "PD"
    ∷ octets "PTH" ∷ octets "PTHM" ∷ octets "PTHMS" ∷ octets "PTM" ∷ octets "PTMS" ∷ octets "PTS"
    ∷ octets "PDTH" ∷ octets "PDTHM" ∷ octets "PDTHMS" ∷ octets "PDTM" ∷ octets "PDTMS" ∷ octets "PDTS" ∷ []

-- the octets but the digits
unfoldable pub letters : List ℕ → List ℕ
letters [] = []
letters (c ∷ s) = pick (is_digit c) (letters s) (c ∷ letters s)

-- weeks, days, hours, minutes, seconds
unfoldable pub is_unit : ℕ → Bool
is_unit c = eqb c (code "W") or eqb c (code "D") or eqb c (code "H") or eqb c (code "M") or eqb c (code "S")

-- behind the octet p, a unit if p is a digit, and else none
unfoldable pub unit_placed : ℕ → ℕ → Bool
unit_placed p c = pick (is_unit c) (is_digit p) (not (is_digit p))

-- digits stand before each unit and nowhere else; p is the octet before the text
unfoldable pub placed : ℕ → List ℕ → Bool
placed p [] = not (is_digit p)
placed p (c ∷ s) = (is_digit c or unit_placed p c) and placed c s

unfoldable pub duration_is : List ℕ → Bool
duration_is s = among (letters (unsigned s)) spans and placed 0 (unsigned s)

unfoldable pub duration_of : List ℕ → Option (List ℕ)
duration_of s = when (duration_is s) s

-- a duration without minus
unfoldable pub forward_is : List ℕ → Bool
forward_is s = not (minus s) and duration_is s

-- a period's end (RFC 5545 3.3.9): a date-time, or a duration without minus
unfoldable pub period_end_of : List ℕ → Option (List ℕ)
period_end_of s = or? (date_time_of s) (when (forward_is s) s)

unfoldable pub period_end_is : List ℕ → Bool
period_end_is t = date_time_is t or forward_is t

unfoldable pub period_end_text : List ℕ → List ℕ
period_end_text t = pick (date_time_is t) (date_time_text t) t
