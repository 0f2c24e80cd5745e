-- Durations as the code reads them: each letter by the one before it.
use Rattle.std.specs.Prelude.{ℕ, Bool, false, not, List, [], ◌∷◌, eqb}
use Prim.Native.Char.{code}
use Rattle.octets.specs.Basics.{pick, ◌and◌, ◌or◌}
use Rattle.octets.specs.Classes.{is_digit}
use Rattle.calendar.specs.Durations.{is_unit, unit_placed}

-- the letter c may follow the letter b, for which 0 stands if there is none
unfoldable pub letter_follows : ℕ → ℕ → Bool
letter_follows b c =
    pick (eqb b 0) (eqb c (code "P"))
    (pick (eqb b (code "P")) (eqb c (code "D") or eqb c (code "T") or eqb c (code "W"))
    (pick (eqb b (code "D")) (eqb c (code "T"))
    (pick (eqb b (code "T")) (eqb c (code "H") or eqb c (code "M") or eqb c (code "S"))
    (pick (eqb b (code "H")) (eqb c (code "M"))
    (pick (eqb b (code "M")) (eqb c (code "S")) false)))))

-- c may stand behind the octet p, where b is the last letter before it
unfoldable pub may_come : ℕ → ℕ → ℕ → Bool
may_come b p c = is_digit c or (letter_follows b c and unit_placed p c)

-- the last letter, with c
unfoldable pub letter_with : ℕ → ℕ → ℕ
letter_with b c = pick (is_digit c) b c

-- the text is the rest of a duration behind the octet p, where b is the last letter before it
unfoldable pub duration_rest : ℕ → ℕ → List ℕ → Bool
duration_rest b p [] = is_unit b and not (is_digit p)
duration_rest b p (c ∷ s) = may_come b p c and duration_rest (letter_with b c) c s
