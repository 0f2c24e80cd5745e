-- A content line as written (RFC 5545 3.1; RFC 6868 3; 01, Lines and Parameters): names in uppercase, values with colon, semicolon or comma in quotes.
use Rattle.std.specs.Prelude.{ℕ, Bool, true, false, List, [], ◌∷◌, ◌++◌, map, eqb}
use Prim.Native.Char.{code}
use Rattle.octets.specs.Basics.{octets, ◌or◌, any}
use Rattle.octets.specs.Pieces.{joined}
use Rattle.octets.specs.Classes.{upper}
use Rattle.content.specs.Carets.{encoded}
use Rattle.content.specs.Line.{Param}

unfoldable pub asks_quotes : ℕ → Bool
asks_quotes c = eqb c (code ":") or eqb c (code ";") or eqb c (code ",")

unfoldable pub quoted_if : Bool → List ℕ → List ℕ
quoted_if true v = code "\"" ∷ v ++ code "\"" ∷ []
quoted_if false v = v

unfoldable pub param_value_text : List ℕ → List ℕ
param_value_text v = quoted_if (any asks_quotes v) (encoded v)

-- the values behind a parameter's first one, each behind its comma
unfoldable pub more_values : List (List ℕ) → List ℕ
more_values [] = []
more_values (v ∷ vs) = (octets "," ++ param_value_text v) ++ more_values vs

-- ;NAME=VALUE,VALUE
unfoldable pub param_text : Param → List ℕ
param_text p = code ";" ∷ upper p.name ++ code "=" ∷ joined (code ",") (map param_value_text p.values)

unfoldable pub params_text : List Param → List ℕ
params_text [] = []
params_text (p ∷ ps) = param_text p ++ params_text ps

-- NAME;PARAM;PARAM:VALUE
unfoldable pub line_text : List ℕ → List Param → List ℕ → List ℕ
line_text n ps v = upper n ++ (params_text ps ++ code ":" ∷ v)
