-- Fixed forms: iCalendar's basic form of a date, time or UTC offset, and jCal's extended form, which adds hyphens and colons (RFC 7265 3.6.4, 3.6.5, 3.6.12, 3.6.14).
use Rattle.std.specs.Prelude.{ℕ, Bool, true, false, List, [], ◌∷◌, ◌++◌, eqb, take, drop}
use Prim.Native.Char.{code}
use Rattle.std.proofs.Math.Option.{Option, none, some}
use Rattle.octets.specs.Basics.{◌and◌, ◌or◌}
use Rattle.octets.specs.Optional.{map?, or?}
use Rattle.octets.specs.Classes.{is_digit}
use Rattle.octets.specs.Decimal.{is_sign, value_of}

-- a place of a form: a digit; a plus or a minus; a fixed letter; an octet that only the extended form has
pub data Slot : Type 0 where
  digit sign : Slot
  letter added : ℕ → Slot

unfoldable pub takes : Slot → ℕ → Bool
takes digit x = is_digit x
takes sign x = is_sign x
takes (letter l) x = eqb x l
takes (added a) x = eqb x a

-- the text has the extended form
unfoldable pub fits : List Slot → List ℕ → Bool
fits [] [] = true
fits [] (x ∷ xs) = false
fits (f ∷ fs) [] = false
fits (f ∷ fs) (x ∷ xs) = takes f x and fits fs xs

unfoldable pub kept : Bool → ℕ → Option (List ℕ) → Option (List ℕ)
kept true x r = map? (λ s. x ∷ s) r
kept false x r = none

-- the extended text of a basic one, if this has the form
unfoldable pub extended : List Slot → List ℕ → Option (List ℕ)
extended [] [] = some []
extended [] (x ∷ xs) = none
extended (digit ∷ f) [] = none
extended (digit ∷ f) (x ∷ xs) = kept (is_digit x) x (extended f xs)
extended (sign ∷ f) [] = none
extended (sign ∷ f) (x ∷ xs) = kept (is_sign x) x (extended f xs)
extended (letter l ∷ f) [] = none
extended (letter l ∷ f) (x ∷ xs) = kept (eqb x l) l (extended f xs)
extended (added a ∷ f) xs = kept true a (extended f xs)

-- the same by a form that may be with its end or without it
unfoldable pub fits_either : (Bool → List Slot) → List ℕ → Bool
fits_either f t = fits (f false) t or fits (f true) t

unfoldable pub extended_either : (Bool → List Slot) → List ℕ → Option (List ℕ)
extended_either f s = or? (extended (f false) s) (extended (f true) s)

unfoldable pub keeps : Slot → ℕ → List ℕ
keeps digit x = x ∷ []
keeps sign x = x ∷ []
keeps (letter l) x = x ∷ []
keeps (added a) x = []

-- the basic text of an extended one, which may end before the form does
unfoldable pub basic : List Slot → List ℕ → List ℕ
basic [] xs = []
basic (f ∷ fs) [] = []
basic (f ∷ fs) (x ∷ xs) = keeps f x ++ basic fs xs

-- yyyy-mm-dd
unfoldable pub date_form : List Slot
date_form = digit ∷ digit ∷ digit ∷ digit ∷ added (code "-") ∷ digit ∷ digit ∷ added (code "-") ∷ digit ∷ digit ∷ []

-- hh:mm:ss
unfoldable pub clock_form : List Slot
clock_form = digit ∷ digit ∷ added (code ":") ∷ digit ∷ digit ∷ added (code ":") ∷ digit ∷ digit ∷ []

-- a Z behind a form, for UTC
unfoldable pub utc : Bool → List Slot → List Slot
utc true f = f ++ letter (code "Z") ∷ []
utc false f = f

unfoldable pub time_form : Bool → List Slot
time_form z = utc z clock_form

unfoldable pub date_time_form : Bool → List Slot
date_time_form z = utc z (date_form ++ letter (code "T") ∷ clock_form)

-- a sign, hh:mm, and optionally :ss
unfoldable pub offset_form : Bool → List Slot
offset_form false = sign ∷ digit ∷ digit ∷ added (code ":") ∷ digit ∷ digit ∷ []
offset_form true = sign ∷ clock_form

-- the number in the n digits from a place of a text on
unfoldable pub number_at : ℕ → ℕ → List ℕ → ℕ
number_at at n s = value_of (take n (drop at s))
