-- Two promises about every text that is written to iCalendar (01, Lines and Errors that tempt).
use Rattle.std.specs.Prelude.{ℕ, ◌≡◌, List}
use Rattle.octets.specs.Answers.{accepted}
use Rattle.types.specs.Table.{Table}
use Rattle.types.specs.Rows.{table_of}
use Rattle.json_text.specs.Tree.{Json}
use Rattle.json_text.specs.Reader.{parse_text}
use Rattle.content.specs.Lines.{lines_of}
use Rattle.content.specs.Fold.{text_of}
use Rattle.content.specs.Physical.{Physical}
use Rattle.conversion_theory.specs.Tree.{Component}
use Rattle.conversion_theory.specs.Skeleton.{calendar_of}
use Rattle.conversion_theory.specs.ToIcal.{json_of, component_lines, to_ical}

-- every line that is written has at most 75 octets, and no fold stands inside a character
abbrev pub LinesFit : Type 0
LinesFit = (rows text out : List ℕ) → to_ical rows text ≡ accepted out → Physical out

-- the text is written from the lines of the component that the jCal holds, and unfolding it gives exactly these
pub record Apart (rows text out : List ℕ) : Type 0 where
  pub table : Table
  pub tabled : table_of rows ≡ accepted table
  pub json : Json
  pub parsed : json_of (parse_text text) ≡ accepted json
  pub from : Component
  pub held : calendar_of json ≡ accepted from
  pub folded : text_of (component_lines table from) ≡ out
  pub lines : lines_of out ≡ component_lines table from

-- nothing from a JSON string begins a line of its own
abbrev pub LinesApart : Type 0
LinesApart = (rows text out : List ℕ) → to_ical rows text ≡ accepted out → Apart rows text out
