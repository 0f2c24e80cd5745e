-- What the program `stops` prints for its input (01, The stop list).
use Rattle.std.specs.Prelude.{ℕ, suc, not, List, [], ◌∷◌, ◌++◌, eqb, leb, length}
use Prim.Native.Char.{code}
use Rattle.std.proofs.Math.Option.{Option}
use Rattle.octets.specs.Basics.{octets, pick, ◌and◌, filled, same}
use Rattle.octets.specs.Pieces.{split}
use Rattle.octets.specs.Optional.{when, given}
use Rattle.octets.specs.Decimal.{digits, value_of, figures, trim, decimal}
use Rattle.octets.specs.Limits.{most_text}
use Rattle.octets.specs.Answers.{Answer, refused, accepted}
use Rattle.calendar.specs.declared.dates.Date.{Date}
use Rattle.calendar.specs.declared.moments.Kind.{Kind}
use Rattle.calendar.specs.declared.moments.Kind.TheVariants.{Day, Local, Utc}
use Rattle.calendar.specs.declared.moments.Moment.{Moment}
use Rattle.stop_list.specs.declared.Stop.{Stop}
use Rattle.stop_list.specs.Stops.{list_of}

-- three numbers with an octet between them, the first in w digits
unfoldable pub three_shown : ℕ → ℕ → ℕ → ℕ → ℕ → List ℕ
three_shown w sep a b c = figures w a ++ (sep ∷ (figures 2 b ++ (sep ∷ figures 2 c)))

-- yyyy-mm-dd
unfoldable pub date_shown : Date → List ℕ
date_shown d = three_shown 4 (code "-") d.year d.month d.day

-- hh:mm:ss
unfoldable pub clock_shown : Moment → List ℕ
clock_shown m = three_shown 2 (code ":") m.hour m.minute m.second

-- a date without time, UTC with Z
unfoldable pub time_shown : Kind → Moment → List ℕ
time_shown Day m = []
time_shown Local m = code "T" ∷ clock_shown m
time_shown Utc m = code "T" ∷ (clock_shown m ++ (code "Z" ∷ []))

unfoldable pub moment_shown : Moment → List ℕ
moment_shown m = date_shown m.date ++ time_shown m.kind m

-- each line a number and the moment
unfoldable pub stop_shown : ℕ → Stop → List ℕ
stop_shown i s = decimal i ++ (code " " ∷ (moment_shown s.moment ++ (code "\n" ∷ [])))

unfoldable pub stops_shown : ℕ → List Stop → List ℕ
stops_shown i [] = []
stops_shown i (s ∷ ss) = stop_shown i s ++ stops_shown (suc i) ss

-- a line with a word and a number
unfoldable pub head_shown : List ℕ → ℕ → List ℕ
head_shown word n = word ++ (decimal n ++ (code "\n" ∷ []))

-- the header has the count; the stops are numbered from 1
unfoldable pub answer_shown : Answer (List Stop) → List ℕ
answer_shown (refused n) = head_shown (octets "refused ") n
answer_shown (accepted ss) = head_shown (octets "stops ") (length ss) ++ stops_shown 1 ss

unfoldable pub bad_input : List ℕ
bad_input = octets "bad input\n"

-- the most stops: a number from 0 to 64 in digits without leading zeros
unfoldable pub most_stops : ℕ
most_stops = 64

unfoldable pub most_of : List ℕ → Option ℕ
most_of s = when (digits s and same (trim s) s and leb (value_of s) most_stops) (value_of s)

-- start, rule and most stops, each a line
unfoldable pub shown_for : List ℕ → List ℕ → List ℕ → List ℕ
shown_for start rule most = given bad_input (λ n. answer_shown (list_of start rule n)) (most_of most)

-- a line that LF ends, without the CR of a CRLF
unfoldable pub chop : List ℕ → List ℕ
chop [] = []
chop (c ∷ s) = pick (eqb c (code "\r") and not (filled s)) [] (c ∷ chop s)

-- the lines of the pieces between LFs; what stands behind the last LF is a line if it has octets
unfoldable pub input_lines : List (List ℕ) → List (List ℕ)
input_lines [] = []
input_lines (l ∷ []) = pick (filled l) (l ∷ []) []
input_lines (l ∷ m ∷ ls) = chop l ∷ input_lines (m ∷ ls)

-- three lines, no more and no less
unfoldable pub lines_shown : List (List ℕ) → List ℕ
lines_shown [] = bad_input
lines_shown (a ∷ []) = bad_input
lines_shown (a ∷ b ∷ []) = bad_input
lines_shown (a ∷ b ∷ c ∷ []) = shown_for a b c
lines_shown (a ∷ b ∷ c ∷ d ∷ ls) = bad_input

unfoldable pub printed : List ℕ → List ℕ
printed text = pick (leb (length text) most_text) (lines_shown (input_lines (split (code "\n") text))) bad_input
