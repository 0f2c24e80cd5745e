-- The form of a content line (01, number 4; RFC 5545 3.1), by the pieces that `line_of` cuts it into; and the tests of all lines, in their order.
use Rattle.std.specs.Prelude.{ℕ, Bool, false, not, List, [], ◌∷◌, eqb}
use Prim.Native.Char.{code}
use Rattle.octets.specs.Basics.{pick, ◌and◌, ◌or◌, all, filled}
use Rattle.octets.specs.Classes.{is_name}
use Rattle.octets.specs.Utf8.{clean}
use Rattle.octets.specs.Answers.{Answer, accepted, unless}
use Rattle.content.specs.Line.{quote_after, bare, before, behind, pieces}

-- a bare `sep` stands in the text
unfoldable pub has_bare : ℕ → Bool → List ℕ → Bool
has_bare sep q [] = false
has_bare sep q (c ∷ s) = bare sep q c or has_bare sep (quote_after q c) s

unfoldable pub quote_free : List ℕ → Bool
quote_free v = all (λ c. not (eqb c (code "\""))) v

-- the first double quote is the last octet
unfoldable pub quote_last : List ℕ → Bool
quote_last [] = false
quote_last (c ∷ v) = pick (eqb c (code "\"")) (not (filled v)) (quote_last v)

-- in quotes, with none inside
unfoldable pub in_quotes : List ℕ → Bool
in_quotes [] = false
in_quotes (c ∷ v) = eqb c (code "\"") and quote_last v

-- a parameter's value
unfoldable pub value_formed : List ℕ → Bool
value_formed v = quote_free v or in_quotes v

-- NAME=VALUE,VALUE
unfoldable pub param_formed : List ℕ → Bool
param_formed p = has_bare (code "=") false p and is_name (before (code "=") false p) and all value_formed (pieces (code ",") false (behind (code "=") false p))

-- NAME;PARAM;PARAM
unfoldable pub head_formed : List (List ℕ) → Bool
head_formed [] = false
head_formed (n ∷ ps) = is_name n and all param_formed ps

-- NAME;PARAM;PARAM:VALUE
unfoldable pub formed : List ℕ → Bool
formed l = has_bare (code ":") false l and head_formed (pieces (code ";") false (before (code ":") false l))

-- the lines of a text: number 3, tested of all of them before number 4
unfoldable pub content_lines : List (List ℕ) → Answer (List (List ℕ))
content_lines ls = unless 3 (all clean ls) (λ _. unless 4 (all formed ls) (λ _. accepted ls))
