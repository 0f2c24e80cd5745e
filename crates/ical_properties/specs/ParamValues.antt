-- The values of a parameter as written.
use Rattle.std.specs.Prelude.{ℕ, List, map}
use Prim.Native.Char.{code}
use Rattle.octets.specs.Pieces.{joined}
use Rattle.content.specs.Write.{param_value_text}

-- commas between them
unfoldable pub param_values_text : List (List ℕ) → List ℕ
param_values_text vs = joined (code ",") (map param_value_text vs)
