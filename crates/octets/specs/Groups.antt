-- The classes of octets by name, for tests over a whole slice and for runs, and the cases in which names are compared and written.
use Rattle.std.specs.Prelude.{ℕ, Bool, not, eqb, leb}
use Prim.Native.Char.{code}
use Rattle.octets.specs.Basics.{◌and◌, ◌or◌}
use Rattle.octets.specs.Classes.{is_digit, name_octet, lower_name_octet, plain_octet, text_octet, is_space, upper_octet, lower_octet}
use Rattle.octets.specs.declared.names.Class.{Class}
use Rattle.octets.specs.declared.names.Class.TheVariants.{Digit, Name, LowerName, Plain, Text, Space, Unescaped, AsIs, TextBare, TextAsIs, Safe, CaretFree, ParamAsIs, Other}
use Rattle.octets.specs.declared.names.Case.{Case}
use Rattle.octets.specs.declared.names.Case.TheVariants.{Upper, Lower, Exact}

-- RFC 8259 7, unescaped: an octet that stands for itself in a JSON string
unfoldable pub json_unescaped : ℕ → Bool
json_unescaped c = leb 32 c and not (eqb c (code "\"")) and not (eqb c (code "\\"))

-- 01, Values: an octet that is written into a JSON string as it is
unfoldable pub as_is_octet : ℕ → Bool
as_is_octet c = not (eqb c (code "\"") or eqb c (code "\\") or eqb c (code "\n") or eqb c (code "\t"))

-- RFC 5545 3.3.11: an octet that a text has as it is, but for tab
unfoldable pub text_bare : ℕ → Bool
text_bare c = leb 32 c and not (eqb c (code ",")) and not (eqb c (code ";")) and not (eqb c (code "\\")) and not (eqb c 127)

-- an octet that text and JSON string have alike, as it is
unfoldable pub text_as_is : ℕ → Bool
text_as_is c = not (eqb c (code "\"")) and text_bare c

-- RFC 5545 3.1, SAFE-CHAR, where no control character stands: an octet of a parameter value without quotes
unfoldable pub safe_octet : ℕ → Bool
safe_octet c = not (eqb c (code ",")) and not (eqb c (code ";")) and not (eqb c (code ":")) and not (eqb c (code "\""))

-- RFC 6868 3.1: an octet that no caret encodes
unfoldable pub caret_free : ℕ → Bool
caret_free c = not (eqb c (code "^")) and not (eqb c (code "\"")) and not (eqb c (code "\n"))

-- an octet that parameter value and JSON string have alike, as it is
unfoldable pub param_as_is : ℕ → Bool
param_as_is c = not (eqb c (code "^")) and as_is_octet c

abbrev pub belongs : Class → ℕ → Bool
belongs Digit c = is_digit c
belongs Name c = name_octet c
belongs LowerName c = lower_name_octet c
belongs Plain c = plain_octet c
belongs Text c = text_octet c
belongs Space c = is_space c
belongs Unescaped c = json_unescaped c
belongs AsIs c = as_is_octet c
belongs TextBare c = text_bare c
belongs TextAsIs c = text_as_is c
belongs Safe c = safe_octet c
belongs CaretFree c = caret_free c
belongs ParamAsIs c = param_as_is c
belongs (Other b) c = not (eqb c b)

abbrev pub cased : Case → ℕ → ℕ
cased Upper c = upper_octet c
cased Lower c = lower_octet c
cased Exact c = c
