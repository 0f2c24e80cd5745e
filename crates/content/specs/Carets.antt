-- Parameter values by RFC 6868 (3): `^n` is newline, `^^` a caret, `^'` a double quote; a caret before anything else stays (01, Parameters).
use Rattle.std.specs.Prelude.{ℕ, Bool, true, false, not, List, [], ◌∷◌, ◌++◌, eqb}
use Prim.Native.Char.{code}
use Rattle.octets.specs.Basics.{octets, pick, ◌and◌}

-- what an octet adds; the flag says that an undecided caret stands before it
unfoldable pub decoded_octet : Bool → ℕ → List ℕ
decoded_octet false c = pick (eqb c (code "^")) [] (c ∷ [])
decoded_octet true c =
    pick (eqb c (code "n")) (octets "\n")
    (pick (eqb c (code "^")) (octets "^")
    (pick (eqb c (code "'")) (octets "\"") (code "^" ∷ c ∷ [])))

unfoldable pub caret_after : Bool → ℕ → Bool
caret_after e c = not e and eqb c (code "^")

-- from left to right; a last caret stays
unfoldable pub decoded_from : Bool → List ℕ → List ℕ
decoded_from e [] = pick e (octets "^") []
decoded_from e (c ∷ s) = decoded_octet e c ++ decoded_from (caret_after e c) s

unfoldable pub decoded : List ℕ → List ℕ
decoded s = decoded_from false s

-- on return every caret is doubled
unfoldable pub encoded_octet : ℕ → List ℕ
encoded_octet c =
    pick (eqb c (code "^")) (octets "^^")
    (pick (eqb c (code "\"")) (octets "^'")
    (pick (eqb c (code "\n")) (octets "^n") (c ∷ [])))

unfoldable pub encoded : List ℕ → List ℕ
encoded [] = []
encoded (c ∷ s) = encoded_octet c ++ encoded s
