-- Parts of raw values, and of what is written for them: the values by themselves, and a quoted value of a recurrence rule.
use Rattle.std.specs.Prelude.{ℕ, Bool, true, false, List, [], ◌∷◌, ◌++◌}
use Prim.Native.Char.{code}
use Rattle.std.proofs.Math.Option.{Option, none}
use Rattle.octets.specs.Basics.{octets, pick}
use Rattle.octets.specs.Pieces.{split}
use Rattle.calendar.specs.Recurrence.{PartSort}
use Rattle.calendar.specs.Walk.{item_shown}
use Rattle.json_text.specs.Tree.{Json}
use Rattle.values.specs.Sorts.{Sort, is_text}
use Rattle.values.specs.Read.{read_one}

-- one value by itself; texts are read together
unfoldable pub read_alone : Sort → List ℕ → Option Json
read_alone k s = pick (is_text k) none (read_one k s)

-- the values between commas, or one alone
unfoldable pub value_pieces : Bool → List ℕ → List (List ℕ)
value_pieces true s = split (code ",") s
value_pieces false s = s ∷ []

abbrev pub word_shown : PartSort → List ℕ → List ℕ
word_shown k s = code "\"" ∷ (item_shown k s ++ octets "\"")
