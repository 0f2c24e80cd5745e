-- Values that are sent as base64 (01, number 8; RFC 4648 4; 02, [2]).
use Rattle.std.specs.Prelude.{ℕ, ◌+◌, ◌-◌, ◌*◌, ◌/◌, ◌%◌, Bool, not, List, [], ◌∷◌, eqb}
use Prim.Native.Char.{code}
use Rattle.std.proofs.Math.Option.{Option, some}
use Rattle.octets.specs.Basics.{pick, ◌and◌, ◌or◌}
use Rattle.octets.specs.Optional.{when, guard}
use Rattle.octets.specs.Classes.{is_upper, is_lower, is_digit}
use Rattle.octets.specs.Utf8.{clean}
use Rattle.types.specs.Codes.{unprocessed, binary}
use Rattle.values.specs.Simple.{unpadded, binary_is}

-- number 8, both ways: binary has ENCODING=BASE64
unfoldable pub binary_fits : ℕ → Bool → Bool
binary_fits c encoded = not (eqb c binary) or encoded

-- 02, [2]: ENCODING=BASE64 is decoded where the type is one of the thirteen others, not where the value passes unprocessed
unfoldable pub is_decoded : ℕ → Bool → Bool
is_decoded c encoded = not (eqb c unprocessed) and not (eqb c binary) and encoded

-- RFC 4648, table 1: the six bits that an octet of the alphabet stands for
unfoldable pub sextet : ℕ → ℕ
sextet c =
    pick (is_upper c) (c - code "A")
    (pick (is_lower c) ((c - code "a") + 26)
    (pick (is_digit c) ((c - code "0") + 52)
    (pick (eqb c (code "+")) 62 63)))

-- the octets of a group of four times six bits, each from two neighbours
unfoldable pub first_octet : ℕ → ℕ → ℕ
first_octet a b = (sextet a * 4) + (sextet b / 16)

unfoldable pub second_octet : ℕ → ℕ → ℕ
second_octet b c = ((sextet b % 16) * 16) + (sextet c / 4)

unfoldable pub third_octet : ℕ → ℕ → ℕ
third_octet c d = ((sextet c % 4) * 64) + sextet d

-- without padding: three octets for four of the alphabet, and at the end two for three or one for two; bits left over are not looked at
unfoldable pub groups_decoded : List ℕ → List ℕ
groups_decoded [] = []
groups_decoded (a ∷ []) = []
groups_decoded (a ∷ b ∷ []) = first_octet a b ∷ []
groups_decoded (a ∷ b ∷ c ∷ []) = first_octet a b ∷ second_octet b c ∷ []
groups_decoded (a ∷ b ∷ c ∷ d ∷ s) = first_octet a b ∷ second_octet b c ∷ third_octet c d ∷ groups_decoded s

-- what a value of base64 stands for, by binary's own rule
unfoldable pub base64_of : List ℕ → Option (List ℕ)
base64_of s = when (binary_is s) (groups_decoded (unpadded (unpadded s)))

-- 02, [2]: the octets that are the value's text: those received, or those decoded, if number 3 lets them stand
unfoldable pub text_sent : Bool → List ℕ → Option (List ℕ)
text_sent decodes s = pick decodes (guard clean (base64_of s)) (some s)
