-- Decimal numbers: their value, their digits, and the forms that both RFC 5545 and JSON write.
use Rattle.std.specs.Prelude.{ℕ, zero, suc, ◌+◌, ◌-◌, ◌*◌, ◌/◌, ◌%◌, Bool, true, false, not, List, [], ◌∷◌, ◌++◌, eqb, get_or}
use Prim.Native.Char.{code}
use Rattle.octets.specs.Basics.{pick, ◌and◌, ◌or◌, all, filled}
use Rattle.octets.specs.Classes.{is_digit}

-- one or more digits
unfoldable pub digits : List ℕ → Bool
digits s = filled s and all is_digit s

-- the number that digits say, with a in front of them
unfoldable pub value_from : ℕ → List ℕ → ℕ
value_from a [] = a
value_from a (c ∷ s) = value_from (a * 10 + (c - code "0")) s

unfoldable pub value_of : List ℕ → ℕ
value_of s = value_from 0 s

-- the last w decimal digits of n
unfoldable pub figures : ℕ → ℕ → List ℕ
figures zero n = []
figures (suc w) n = figures w (n / 10) ++ (code "0" + n % 10) ∷ []

-- a plus or a minus in front (RFC 5545 3.3.7, 3.3.8)
unfoldable pub is_sign : ℕ → Bool
is_sign c = eqb c (code "+") or eqb c (code "-")

unfoldable pub has_sign : List ℕ → Bool
has_sign s = is_sign (get_or s 0 0)

unfoldable pub minus : List ℕ → Bool
minus s = eqb (get_or s 0 0) (code "-")

unfoldable pub unsigned : List ℕ → List ℕ
unsigned [] = []
unsigned (c ∷ s) = pick (is_sign c) s (c ∷ s)

-- without the zeros that a digit follows
unfoldable pub trim : List ℕ → List ℕ
trim [] = []
trim (c ∷ s) = pick (eqb c (code "0") and is_digit (get_or s 0 0)) (trim s) (c ∷ s)

unfoldable pub minus_if : Bool → List ℕ → List ℕ
minus_if true s = code "-" ∷ s
minus_if false s = s

-- n in decimal digits without leading zeros, for n below 10 to the 20
unfoldable pub decimal : ℕ → List ℕ
decimal n = trim (figures 20 n)

-- an integer's value, by its digits: plus and leading zeros dropped; -0 is 0
unfoldable pub integer_text : List ℕ → List ℕ
integer_text s = minus_if (minus s and not (eqb (value_of (unsigned s)) 0)) (trim (unsigned s))
