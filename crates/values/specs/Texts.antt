-- Text values (01, Values, Text; RFC 5545 3.3.11, 3.8.8.3).
use Rattle.std.specs.Prelude.{ℕ, Bool, true, false, not, List, [], ◌∷◌, ◌++◌, eqb}
use Prim.Native.Char.{code}
use Rattle.std.proofs.Math.Option.{Option, some}
use Rattle.octets.specs.Basics.{octets, pick, ◌and◌, ◌or◌, all}
use Rattle.octets.specs.Pieces.{cut}
use Rattle.octets.specs.Optional.{both?, when, each}
use Rattle.octets.specs.Classes.{plain_octet, text_octet}

-- Below, the flag says that a backslash escapes the octet. A backslash that none escapes does so with the octet behind it.
unfoldable pub escapes_next : Bool → ℕ → Bool
escapes_next escaped c = not escaped and eqb c (code "\\")

-- the pieces between the octets `sep` that are not escaped, one at least
unfoldable pub bare_from : ℕ → Bool → List ℕ → List (List ℕ)
bare_from sep escaped [] = [] ∷ []
bare_from sep escaped (c ∷ s) = cut (not escaped and eqb c sep) c (bare_from sep (escapes_next escaped c) s)

unfoldable pub bare_split : ℕ → List ℕ → List (List ℕ)
bare_split sep s = bare_from sep false s

-- what an octet says: \\ \; \, \n \N are the only escapes; bare, it is no comma, no semicolon and no control character but tab
unfoldable pub unescaped_octet : Bool → ℕ → Option (List ℕ)
unescaped_octet true c = pick (eqb c (code "\\") or eqb c (code ";") or eqb c (code ",")) (some (c ∷ [])) (when (eqb c (code "n") or eqb c (code "N")) (octets "\n"))
unescaped_octet false c = pick (eqb c (code "\\")) (some []) (when (not (eqb c (code ",") or eqb c (code ";")) and plain_octet c) (c ∷ []))

unfoldable pub unescaped_from : Bool → List ℕ → Option (List ℕ)
unescaped_from escaped [] = when (not escaped) []
unescaped_from escaped (c ∷ s) = both? ◌++◌ (unescaped_octet escaped c) (unescaped_from (escapes_next escaped c) s)

-- a text without its escapes
unfoldable pub unescaped : List ℕ → Option (List ℕ)
unescaped s = unescaped_from false s

-- REQUEST-STATUS: the texts between bare semicolons
unfoldable pub fields : List ℕ → Option (List (List ℕ))
fields s = each unescaped (bare_split (code ";") s)

-- a text in jCal: no control character but tab and newline
unfoldable pub text_is : List ℕ → Bool
text_is t = all text_octet t

-- and as iCalendar writes it
unfoldable pub escaped_octet : ℕ → List ℕ
escaped_octet c =
    pick (eqb c (code "\\")) (octets "\\\\")
    (pick (eqb c (code ";")) (octets "\\;")
    (pick (eqb c (code ",")) (octets "\\,")
    (pick (eqb c (code "\n")) (octets "\\n") (c ∷ []))))

unfoldable pub text_text : List ℕ → List ℕ
text_text [] = []
text_text (c ∷ s) = escaped_octet c ++ text_text s
