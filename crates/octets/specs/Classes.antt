-- Classes of octets, and names (RFC 5545 3.1; RFC 5234 B.1).
use Rattle.std.specs.Prelude.{ℕ, ◌+◌, ◌-◌, Bool, not, List, map, eqb, leb}
use Prim.Native.Char.{code}
use Rattle.octets.specs.Basics.{pick, ◌and◌, ◌or◌, all, filled, same}

-- lo ≤ c ≤ hi
unfoldable pub between : ℕ → ℕ → ℕ → Bool
between lo hi c = leb lo c and leb c hi

unfoldable pub is_digit : ℕ → Bool
is_digit c = between (code "0") (code "9") c

unfoldable pub is_upper : ℕ → Bool
is_upper c = between (code "A") (code "Z") c

unfoldable pub is_lower : ℕ → Bool
is_lower c = between (code "a") (code "z") c

unfoldable pub is_letter : ℕ → Bool
is_letter c = is_upper c or is_lower c

-- RFC 5545 3.1, iana-token: letters, digits, hyphen
unfoldable pub name_octet : ℕ → Bool
name_octet c = is_letter c or is_digit c or eqb c (code "-")

-- a name: one or more of these
unfoldable pub is_name : List ℕ → Bool
is_name s = filled s and all name_octet s

-- 01, Values, number 12: a lowercase RFC 5545 name
unfoldable pub lower_name_octet : ℕ → Bool
lower_name_octet c = is_lower c or is_digit c or eqb c (code "-")

unfoldable pub is_lower_name : List ℕ → Bool
is_lower_name s = filled s and all lower_name_octet s

-- 01, Which type: a control character, 0 to 31 or 127
unfoldable pub is_control : ℕ → Bool
is_control c = leb c 31 or eqb c 127

-- 01, number 3 and Which type: no control character but tab
unfoldable pub plain_octet : ℕ → Bool
plain_octet c = not (is_control c) or eqb c (code "\t")

-- 01, number 7 and Values, Text: no control character but tab and newline
unfoldable pub text_octet : ℕ → Bool
text_octet c = plain_octet c or eqb c (code "\n")

-- RFC 8259 2, ws
unfoldable pub is_space : ℕ → Bool
is_space c = eqb c (code " ") or eqb c (code "\n") or eqb c (code "\r") or eqb c (code "\t")

unfoldable pub upper_octet : ℕ → ℕ
upper_octet c = pick (is_lower c) (c - 32) c

unfoldable pub lower_octet : ℕ → ℕ
lower_octet c = pick (is_upper c) (c + 32) c

unfoldable pub upper : List ℕ → List ℕ
upper s = map upper_octet s

unfoldable pub lower : List ℕ → List ℕ
lower s = map lower_octet s

-- 01, Lines: names compare without case
unfoldable pub same_name : List ℕ → List ℕ → Bool
same_name a b = same (upper a) (upper b)

-- the value of a hexadecimal digit of either case; 16 for any other octet
unfoldable pub hex_digit : ℕ → ℕ
hex_digit c =
    pick (is_digit c) (c - code "0")
    (pick (between (code "A") (code "F") c) (c - code "A" + 10)
    (pick (between (code "a") (code "f") c) (c - code "a" + 10) 16))
