-- What the writers of lines promise.
use Rattle.std.specs.Prelude.{ℕ, ◌≡◌, Bool, true, false, not, List, [], ◌∷◌, ◌++◌, Option, Some, None}
use Rattle.octets.specs.Basics.{octets, ◌and◌, ◌or◌}
use Rattle.octets.specs.Classes.{upper}
use Rattle.octets.specs.Optional.{is_some}
use Rattle.octets.specs.Pen.{FrontKept}
use Rattle.json_text.specs.Tree.{Json}
use Rattle.tape.specs.Decode.{list_at}
use Rattle.tape.specs.Promise.{Left}
use Rattle.content.specs.Line.{Param}
use Rattle.content.specs.Write.{param_text, params_text}
use Rattle.content.specs.Folding.{FoldPen, folding, Folded}
use Rattle.content.specs.declared.fold.Folder.{Folder}
use Rattle.values.specs.Base64.{is_decoded}
use Rattle.values.specs.Coded.{sort_said}
use Rattle.values.specs.Write.{values_are, values_text}
use Rattle.conversion_theory.specs.Property.{values_sent}
use Rattle.conversion_theory.specs.Return.{first_octets}
use Rattle.ical_properties.specs.declared.Ruling.{Ruling}

-- VALUE, where it is shown
unfoldable pub value_param_text : Bool → List ℕ → List ℕ
value_param_text true t = param_text (record { name = octets "value"; values = upper t ∷ [] })
value_param_text false t = []

-- a line up to its colon
unfoldable pub head_text : List ℕ → Bool → List ℕ → List Param → List ℕ
head_text n b t ps = upper n ++ (value_param_text b t ++ (params_text ps ++ octets ":"))

-- the first value, decoded where it is encoded, is what the name takes without VALUE, where a ruling asks for that
abbrev pub is_taken : Ruling → List ℕ → Bool → List Json → Bool
is_taken k n encoded vs = not k.taken or is_some (values_sent (is_decoded k.code encoded) n k.code k.many (first_octets vs))

-- the values are what a ruling asks for under this name, with ENCODING=BASE64 or without
unfoldable pub standing : Ruling → List ℕ → Bool → List Json → Bool
standing k n encoded vs = values_are k.many (sort_said k.sort) vs and is_taken k n encoded vs

-- the values of the group at i stand, are written behind f, and the place behind them is told; or they do not stand, and the buffer is as long and as before in front of
-- the pen, and the code's choice behind
abbrev pub ValuesWritten : Ruling → List ℕ → Bool → List ℕ → ℕ → FoldPen → List ℕ → Option (ℕ × Folder) → Type 0
ValuesWritten k n encoded t i f out (Some r) = (standing k n encoded (list_at t i) ≡ true) × Folded f (values_text (sort_said k.sort) (list_at t i)) (folding out r.1) × Left t i r.0
ValuesWritten k n encoded t i f out None = (standing k n encoded (list_at t i) ≡ false) × FrontKept f.pen out
