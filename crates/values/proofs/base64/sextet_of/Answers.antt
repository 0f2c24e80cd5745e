-- `values::base64::sextet_of` meets its contract: the table has the entry of each octet.
use mathlib.Core.Path.{◌≡◌, refl}
use native.Mathlib.Omega.{arith}
use Rattle.octets.specs.Classes.{between, is_upper, is_lower, is_letter, is_digit}
use Rattle.values.specs.Simple.{base64_octet}
use Rattle.values.specs.Base64.{sextet}
use Rattle.values.specs.Decoding.{entry, entries_from, sextets}
use Rattle.values.specs.declared.base64.TheConstants.{SEXTETS}
use Rattle.values.proofs.Sextets.{looked-up, looked-octet}
use Rattle.values.proofs.base64.sextet_of.Goals as goal

table : SEXTETS ≡ sextets
unfolding sextets entries_from entry base64_octet sextet is_letter is_upper is_lower is_digit between
table = refl

pub overflow_cast-result-2 : goal.overflow_cast-result-2
overflow_cast-result-2 c = omega (arith, looked-octet _ c.args.c table (omega arith))

pub returns : goal.returns
returns c = (looked-up _ c.args.c table (omega arith), looked-octet _ c.args.c table (omega arith))
