-- A content line taken apart into name, parameters and value (RFC 5545 3.1; 01, Parameters). It has the form of number 4 already.
use Rattle.std.specs.Prelude.{ℕ, Bool, false, not, List, [], ◌∷◌, map, eqb}
use Prim.Native.Char.{code}
use Rattle.octets.specs.Basics.{pick, ◌and◌}
use Rattle.octets.specs.Pieces.{cut}
use Rattle.octets.specs.Classes.{lower}
use Rattle.content.specs.Carets.{decoded}

-- a parameter: its lowercase name and its values, quotes dropped and carets decoded, at least one
pub record Param : Type 0 where
  pub name : List ℕ
  pub values : List (List ℕ)

abbrev pub name_of : Param → List ℕ
name_of p = p.name

-- a line: its name and value as received
pub record Line : Type 0 where
  pub name : List ℕ
  pub params : List Param
  pub value : List ℕ

-- whether the octets behind c are in quotes, where q says it of c
unfoldable pub quote_after : Bool → ℕ → Bool
quote_after q c = pick (eqb c (code "\"")) (not q) q

-- c is `sep`, and not in quotes
unfoldable pub bare : ℕ → Bool → ℕ → Bool
bare sep q c = not q and eqb c sep

-- what stands before the first bare `sep`, and behind it
unfoldable pub before : ℕ → Bool → List ℕ → List ℕ
before sep q [] = []
before sep q (c ∷ s) = pick (bare sep q c) [] (c ∷ before sep (quote_after q c) s)

unfoldable pub behind : ℕ → Bool → List ℕ → List ℕ
behind sep q [] = []
behind sep q (c ∷ s) = pick (bare sep q c) s (behind sep (quote_after q c) s)

-- the pieces between the bare `sep`
unfoldable pub pieces : ℕ → Bool → List ℕ → List (List ℕ)
pieces sep q [] = [] ∷ []
pieces sep q (c ∷ s) = cut (bare sep q c) c (pieces sep (quote_after q c) s)

-- all octets but the last
unfoldable pub front : List ℕ → List ℕ
front [] = []
front (c ∷ []) = []
front (c ∷ d ∷ s) = c ∷ front (d ∷ s)

-- without the quotes around it
unfoldable pub unquote : List ℕ → List ℕ
unquote [] = []
unquote (c ∷ s) = pick (eqb c (code "\"")) (front s) (c ∷ s)

unfoldable pub param_value : List ℕ → List ℕ
param_value v = decoded (unquote v)

-- NAME=VALUE,VALUE
unfoldable pub param_of : List ℕ → Param
param_of p = record { name = lower (before (code "=") false p); values = map param_value (pieces (code ",") false (behind (code "=") false p)) }

unfoldable pub headed : List (List ℕ) → List ℕ → Line
headed [] v = record { name = []; params = []; value = v }
headed (n ∷ ps) v = record { name = n; params = map param_of ps; value = v }

-- NAME;PARAM;PARAM:VALUE
unfoldable pub line_of : List ℕ → Line
line_of l = headed (pieces (code ";") false (before (code ":") false l)) (behind (code ":") false l)
