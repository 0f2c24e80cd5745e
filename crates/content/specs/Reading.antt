-- The lines of a text in a buffer, and what their tests answer.
use Rattle.std.specs.Prelude.{ℕ, suc, ◌≤◌, ◌≡◌, List, leb, length, take, Ok, Err}
use Rattle.octets.specs.Basics.{pick}
use Rattle.octets.specs.Pen.{pen, wrote}
use Rattle.octets.specs.Limits.{most_text}
use Rattle.octets.specs.Answers.{Answer, refused, accepted, number}
use Rattle.octets.specs.declared.Refusal.{Refusal}
use Rattle.std.specs.declared.result.Result as ended
use Rattle.content.specs.Lines.{cut_lines, lines_of}
use Rattle.content.specs.Form.{content_lines}
use Rattle.content.specs.Buffer.{laid_out}

-- room for the lines of any text: an LF more than it has octets
abbrev pub room_for_lines : ℕ
room_for_lines = suc most_text

-- what an answer says, with the buffer as it is then; a buffer that is too short is none of the text's faults
unfoldable pub lines_told : List ℕ → ended.Result ℕ Refusal → Answer (List (List ℕ))
lines_told b (Ok n) = accepted (cut_lines (take n b))
lines_told b (Err why) = refused (number why)

abbrev pub LaidWithin : ℕ → ended.Result ℕ Refusal → Type 0
LaidWithin m (Ok n) = n ≤ m
LaidWithin m (Err why) = Unit {0}

-- so many octets are laid out
abbrev pub LaidUpTo : ℕ → ended.Result ℕ Refusal → Type 0
LaidUpTo m (Ok n) = n ≡ m
LaidUpTo m (Err why) = Unit {0}

-- the lines of `text` are laid into the buffer b, which is then `after`
pub record ReadLines (text b after : List ℕ) (r : ended.Result ℕ Refusal) : Type 0 where
  pub buffer : after ≡ (wrote (pen b 0) (laid_out (lines_of text))).buf
  pub within : LaidWithin (length after) r
  pub count : LaidUpTo (length (laid_out (lines_of text))) r
  pub told : lines_told after r ≡ pick (leb (length (laid_out (lines_of text))) (length b)) (content_lines (lines_of text)) (refused 10)
