-- What the decoding of base64 promises, and the table that it goes by.
use Rattle.std.specs.Prelude.{ℕ, zero, suc, ◌≤◌, ◌≡◌, Bool, true, false, List, [], ◌∷◌, ◌++◌, length, take, Some, None}
use Rattle.std.specs.declared.option.Option as code
use Rattle.std.proofs.Math.Option.{Option, some}
use Rattle.octets.specs.Basics.{pick, ◌and◌, all}
use Rattle.octets.specs.Optional.{is_some, when}
use Rattle.values.specs.Simple.{base64_octet}
use Rattle.values.specs.Base64.{sextet, groups_decoded}

-- with room for the value, its text stands at the front of the buffer; or there is no room, or no text. What else the buffer holds is the code's choice.
abbrev pub DecodedAs : Bool → Option (List ℕ) → List ℕ → code.Option ℕ → Type 0
DecodedAs room o out (Some n) = (room ≡ true) × ((n ≤ length out) × (o ≡ some (take n out)))
DecodedAs room o out None = (room and is_some o) ≡ false

-- what unpadded octets of the alphabet stand for, behind what is decoded already
unfoldable pub decoded_behind : List ℕ → List ℕ → Option (List ℕ)
decoded_behind done s = when (all base64_octet s) (done ++ groups_decoded s)

-- the table: the six bits for each octet of the alphabet, and 255 for any other
unfoldable pub entry : ℕ → ℕ
entry c = pick (base64_octet c) (sextet c) 255

unfoldable pub entries_from : ℕ → ℕ → List ℕ
entries_from c zero = []
entries_from c (suc n) = entry c ∷ entries_from (suc c) n

unfoldable pub sextets : List ℕ
sextets = entries_from 0 256
