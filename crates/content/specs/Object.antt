-- Parameters on their way to jCal: which are left out (01, Parameters; 02, [2]), and a value octet by octet (RFC 6868 3; 01, Parameters and Values).
use Rattle.std.specs.Prelude.{ℕ, Bool, eqb}
use Prim.Native.Char.{code}
use Rattle.octets.specs.Basics.{octets, pick, ◌and◌, ◌or◌}
use Rattle.content.specs.Line.{Param}
use Rattle.content.specs.Parameters.{called, encodes}

-- VALUE is left out, and ENCODING=BASE64 where the value is decoded
unfoldable pub left_out : Bool → Param → Bool
left_out decodes p = called (octets "value") p or (decodes and encodes p)

-- the octet that c stands for, where d follows it
unfoldable pub stands_for : ℕ → ℕ → ℕ
stands_for c d = pick (eqb c (code "^")) (pick (eqb d (code "n")) (code "\n") (pick (eqb d (code "'")) (code "\"") c)) c

-- the octets that are read for it
unfoldable pub octets_read : ℕ → ℕ → ℕ
octets_read c d = pick (eqb c (code "^")) (pick (eqb d (code "n")) 2 (pick (eqb d (code "^")) 2 (pick (eqb d (code "'")) 2 1))) 1
