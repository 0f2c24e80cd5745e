-- What the writers of values promise.
use Rattle.std.specs.Prelude.{ℕ, Bool, true, List, leb, length}
use Rattle.std.specs.declared.option.Option as code
use Rattle.std.proofs.Math.Option.{Option, none}
use Rattle.octets.specs.Basics.{pick, ◌or◌, single}
use Rattle.octets.specs.Optional.{then?, guard}
use Rattle.octets.specs.Pen.{Pen}
use Rattle.json_text.specs.Tree.{Json}
use Rattle.json_text.specs.Print.{values_json}
use Rattle.content.specs.Reading.{room_for_lines}
use Rattle.values.specs.Base64.{text_sent}
use Rattle.values.specs.Sorts.{Sort}
use Rattle.values.specs.Read.{read_values}
use Rattle.jcal_texts.specs.Trying.{Tried}

-- the values of a text, several only where there may be many
abbrev pub values_read : Bool → Sort → List ℕ → Option (List Json)
values_read many sort s = guard (λ vs. many or single vs) (read_values sort s)

-- the values of a raw value that stands are written, each with a comma before it; or it does not stand, what stands in front of the pen is as it was, and the rest of the buffer is the code's choice
abbrev pub Attempted : Bool → Sort → List ℕ → Pen → List ℕ → code.Option ℕ → Type 0
Attempted many sort raw p out r = Tried (values_read many sort raw) values_json p out r

-- the same over the text that is the value's, if there is one
abbrev pub AttemptedIn : Bool → Sort → Option (List ℕ) → Pen → List ℕ → code.Option ℕ → Type 0
AttemptedIn many sort text p out r = Tried (then? text (values_read many sort)) values_json p out r

-- the text of a value that is sent as base64; none, where a buffer of lines has no room for the value
unfoldable pub text_decoded : List ℕ → Option (List ℕ)
text_decoded raw = pick (leb (length raw) room_for_lines) (text_sent true raw) none
