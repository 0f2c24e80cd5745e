-- The events of the lines in a buffer, and how the code tells one: a BEGIN or END line by the place of its component's name.
use Rattle.std.specs.Prelude.{ℕ, ◌+◌, ◌≤◌, ◌<◌, ◌≡◌, List, map, length, drop, Some, None}
use Rattle.std.specs.declared.option.Option.{Option}
use Rattle.octets.specs.Classes.{lower}
use Rattle.content.specs.Line.{Line, line_of}
use Rattle.octets.specs.Search.{until}
use Rattle.content.specs.Lines.{is_lf, cut_lines}
use Rattle.conversion_theory.specs.Structure.{Event, begins, ends, carries, stray, event_of}
use Rattle.jcal.specs.declared.events.ToldLine.{ToldLine}
use Rattle.jcal.specs.declared.events.LineKind.{LineKind}
use Rattle.jcal.specs.declared.events.LineKind.TheVariants.{Opens, Closes, Plain, Broken}

abbrev pub event_at : List ℕ → Event Line
event_at l = event_of (line_of l)

unfoldable pub events_in : List ℕ → List (Event Line)
events_in s = map event_at (cut_lines s)

-- the line of a buffer that begins at i, or the rest of one from there on
unfoldable pub line_from : List ℕ → ℕ → List ℕ
line_from s i = until is_lf (drop i s)

-- a line of the buffer begins at i, and ends at e
pub record LineAt (s : List ℕ) (i e : ℕ) : Type 0 where
  pub within : i < length s
  pub ends : e ≡ i + length (until is_lf (drop i s))
  pub high : e ≤ length s

-- the name of a component, where it begins at i
unfoldable pub name_from : List ℕ → ℕ → List ℕ
name_from s i = lower (line_from s i)

-- what a returned `LineKind` says of the line at i
unfoldable pub line_told : List ℕ → ℕ → LineKind → Event Line
line_told s i (Opens n) = begins (name_from s n)
line_told s i (Closes n) = ends (name_from s n)
line_told s i Plain = carries (line_of (line_from s i))
line_told s i Broken = stray

-- the name of a component stands from n to e, up to the end of its line
pub record Named (s : List ℕ) (n e : ℕ) : Type 0 where
  pub low : n ≤ e
  pub high : e ≤ length s
  pub ends : e ≡ n + length (until is_lf (drop n s))

-- the name in a line that is told of, up to its end
abbrev pub NameOf : List ℕ → ℕ → LineKind → Type 0
NameOf s e (Opens n) = Named s n e
NameOf s e (Closes n) = Named s n e
NameOf s e Plain = Unit {0}
NameOf s e Broken = Unit {0}

pub record TellsLine (s : List ℕ) (i e : ℕ) (k : LineKind) : Type 0 where
  pub is : line_told s i k ≡ event_at (line_from s i)
  pub names : NameOf s e k

-- the first line begins a component, whose name stands from n to e
abbrev pub Outermost : List ℕ → ℕ → ℕ → Type 0
Outermost s e n = TellsLine s 0 e (Opens n)

-- of a buffer s, and its lines from the one at i on: the first of them is this one; t is the buffer still, and the others begin at j
pub record LineGiven (s : List ℕ) (i : ℕ) (l : ToldLine) (t : List ℕ) (j : ℕ) : Type 0 where
  pub begins : l.at ≡ i
  pub is : LineAt s i l.end
  pub tells : TellsLine s i l.end l.kind
  pub same : t ≡ s
  pub on : j ≡ l.end + 1

-- no line is left
pub record LinesOut (s : List ℕ) (i : ℕ) (t : List ℕ) (j : ℕ) : Type 0 where
  pub past : length s ≤ i
  pub same : t ≡ s
  pub on : j ≡ i

abbrev pub GivesLine : List ℕ → ℕ → Option ToldLine → List ℕ → ℕ → Type 0
GivesLine s i None t j = LinesOut s i t j
GivesLine s i (Some l) t j = LineGiven s i l t j
