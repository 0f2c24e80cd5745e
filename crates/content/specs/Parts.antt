-- A content line by the places of its parts, and its parameters as they stand between its name and its colon.
use Rattle.std.specs.Prelude.{ℕ, ◌-◌, ◌≤◌, ◌<◌, ◌≡◌, false, List, [], ◌∷◌, map, length, get_or, take, drop}
use Prim.Native.Char.{code}
use Rattle.octets.specs.Classes.{lower}
use Rattle.content.specs.Line.{Param, Line, before, pieces, param_value, param_of, line_of}
use Rattle.content.specs.declared.parts.Parts.{Parts}
use Rattle.content.specs.declared.parts.ParamParts.{ParamParts}

-- all pieces but the first
unfoldable pub other_pieces : List (List ℕ) → List (List ℕ)
other_pieces [] = []
other_pieces (p ∷ ps) = ps

-- ;PARAM;PARAM
unfoldable pub params_in : List ℕ → List Param
params_in s = map param_of (other_pieces (pieces (code ";") false s))

-- what the places cut out of l
unfoldable pub line_at : List ℕ → Parts → Line
line_at l p = record { name = take p.name l; params = params_in (take (p.colon - p.name) (drop p.name l)); value = drop p.value l }

-- the places of the parts of l, formed or not. Each is fixed: the end of the name and the start of the value by what they cut out, the colon by what stands
-- before it. Where there is no bare colon, `colon` and `value` are the end of l.
pub record Cut (l : List ℕ) (p : Parts) : Type 0 where
  pub name-within : p.name ≤ p.colon
  pub colon-within : p.colon ≤ p.value
  pub value-within : p.value ≤ length l
  pub colon-at : p.colon ≡ length (before (code ":") false l)
  pub line : line_at l p ≡ line_of l

-- t is a part of s: its octets are those of s between two places. It may stand in s at several.
pub record StandsIn (s t : List ℕ) : Type 0 where
  pub from : ℕ
  pub end : ℕ
  pub ordered : from ≤ end
  pub within : end ≤ length s
  pub text : t ≡ take (end - from) (drop from s)

-- the parameter that the places cut out of s, where it begins at i
unfoldable pub param_at : List ℕ → ℕ → ParamParts → Param
param_at s i p = record {
  name = lower (take (p.name - i) (drop i s));
  values = map param_value (pieces (code ",") false (take (p.end - p.values) (drop p.values s)));
}

-- the places of the parts of the parameter at i; behind it stands a semicolon, or nothing
pub record CutParam (s : List ℕ) (i : ℕ) (p : ParamParts) : Type 0 where
  pub name-low : i ≤ p.name
  pub name-within : p.name ≤ p.values
  pub values-within : p.values ≤ p.end
  pub end-within : p.end ≤ length s
  pub next : p.end < length s → get_or s p.end 0 ≡ code ";"
  pub params : map param_of (pieces (code ";") false (drop i s)) ≡ param_at s i p ∷ params_in (drop p.end s)

-- a parameter by the texts of its name and its values
unfoldable pub param_cut : List ℕ → List ℕ → Param
param_cut n v = record { name = lower n; values = map param_value (pieces (code ",") false v) }
