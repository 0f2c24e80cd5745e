-- Binary, boolean, float and integer values (01, Values; RFC 5545 3.3.1, 3.3.2, 3.3.7, 3.3.8; RFC 4648 4).
use Rattle.std.specs.Prelude.{ℕ, suc, ◌-◌, ◌%◌, Bool, true, false, List, [], ◌∷◌, eqb, leb, length, get_or, take}
use Prim.Native.Char.{code}
use Rattle.std.proofs.Math.Option.{Option}
use Rattle.octets.specs.Basics.{octets, pick, ◌and◌, ◌or◌, all, same}
use Rattle.octets.specs.Pieces.{split}
use Rattle.octets.specs.Optional.{or?, when}
use Rattle.octets.specs.Classes.{is_letter, is_digit}
use Rattle.octets.specs.Decimal.{digits, value_of, minus, unsigned, trim, minus_if, integer_text}
use Rattle.octets.specs.Limits.{most_integer}
use Rattle.json_text.specs.Tree.{Json, falsity, truth}

unfoldable pub base64_octet : ℕ → Bool
base64_octet c = is_letter c or is_digit c or eqb c (code "+") or eqb c (code "/")

-- without a padding at the end, if there is one
unfoldable pub unpadded : List ℕ → List ℕ
unpadded s = pick (eqb (get_or s (length s - 1) 0) (code "=")) (take (length s - 1) s) s

-- RFC 4648 4, kept as text: octets of the alphabet, at most two paddings at the end, in groups of four; pad bits are not checked
unfoldable pub binary_is : List ℕ → Bool
binary_is s = eqb (length s % 4) 0 and all base64_octet (unpadded (unpadded s))

-- TRUE or FALSE, in uppercase here
unfoldable pub boolean_of : List ℕ → Option Json
boolean_of s = or? (when (same s (octets "TRUE")) truth) (when (same s (octets "FALSE")) falsity)

unfoldable pub boolean_text : Bool → List ℕ
boolean_text true = octets "TRUE"
boolean_text false = octets "FALSE"

-- digits, and optionally a point with digits
unfoldable pub pointed : List (List ℕ) → Bool
pointed [] = false
pointed (w ∷ []) = digits w
pointed (w ∷ f ∷ []) = digits w and digits f
pointed (w ∷ f ∷ g ∷ l) = false

-- digits kept, plus and leading zeros dropped, minus kept; there is no exponent
unfoldable pub float_of : List ℕ → Option (List ℕ)
float_of s = when (pointed (split (code ".") (unsigned s))) (minus_if (minus s) (trim (unsigned s)))

-- -2147483648 to 2147483647
unfoldable pub in_range : Bool → ℕ → Bool
in_range true n = leb n (suc most_integer)
in_range false n = leb n most_integer

-- the value in digits; -0 is 0; neither fraction nor exponent
unfoldable pub integer_of : List ℕ → Option (List ℕ)
integer_of s = when (digits (unsigned s) and in_range (minus s) (value_of (unsigned s))) (integer_text s)
