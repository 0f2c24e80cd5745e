-- The lines of a text in a buffer, and what the tests of all of them answer.
use Prim.Native.Nat.{ℕ, ◌≤◌, ◌<◌}
use mathlib.Core.Path.{◌≡◌, ap, ◌∙◌}
use mathlib.Core.Bool.{true, false}
use mathlib.Core.List.{List}
use native.Mathlib.Omega.{arith}
use borrow.Author.Tests.{leb-true, leb-false}
use lib.Dec.{leb}
use lib.ListN.{length, take}
use Rattle.octets.specs.Basics.{all}
use Rattle.octets.specs.Utf8.{clean}
use Rattle.octets.specs.Pen.{Pen, pen, wrote, Wrote}
use Rattle.octets.specs.Answers.{unless}
use Rattle.octets.proofs.Cases.{cases}
use Rattle.octets.proofs.Pen.{kept, Landed, landed, full}
use Rattle.content.specs.Lines.{cut_lines, lines_of}
use Rattle.content.specs.Form.{formed, content_lines}
use Rattle.content.specs.Buffer.{laid_out}
use Rattle.content.specs.Reading.{lines_told, ReadLines}
use Rattle.std.specs.Prelude.{Ok, Err}
use Rattle.octets.specs.declared.Refusal.TheVariants.{NotClean, NotContentLine, NoRoom}
use Rattle.content.proofs.Buffer.{lines-again}
use Rattle.content.proofs.LineRuns.{lines-free}

module _ (s o b : List ℕ) (r : ℕ) (w : Wrote (pen o 0) (laid_out (lines_of s)) (pen b r)) where
  buffer-is : b ≡ (wrote (pen o 0) (laid_out (lines_of s))).buf
  buffer-is = ap (λ (p : Pen). p.buf) w.is

  long : length b < r → leb (length (laid_out (lines_of s))) (length o) ≡ false
  long h = cases (leb (length (laid_out (lines_of s))) (length o))
      (λ e. absurd (omega (arith, kept w, (landed o (laid_out (lines_of s)) b r (leb-true (length (laid_out (lines_of s))) (length o) e) w).count, leb-true (length (laid_out (lines_of s))) (length o) e)))
      (λ e. e)

  pub read_none : length b < r → ReadLines s o b (Err NoRoom)
  unfolding lines_told
  read_none h = record { buffer = buffer-is; within = tt; count = tt; told = rw (long h) }

  module _ (h : r ≤ length b) where
    short : leb (length (laid_out (lines_of s))) (length o) ≡ true
    short = cases (leb (length (laid_out (lines_of s))) (length o))
        (λ e. e)
        (λ e. absurd (omega (arith, kept w, ap (λ (p : Pen). p.at) w.is, full o (laid_out (lines_of s)) 0 (omega arith) (omega (arith, leb-false (length (laid_out (lines_of s))) (length o) e)))))

    laid-there : Landed o (laid_out (lines_of s)) b r
    laid-there = landed o (laid_out (lines_of s)) b r (leb-true (length (laid_out (lines_of s))) (length o) short) w

    lines_are : cut_lines (take r b) ≡ lines_of s
    lines_are = ap cut_lines laid-there.front ∙ lines-again (lines_of s) (lines-free s)

    pub read-unclean : all clean (cut_lines (take r b)) ≡ false → ReadLines s o b (Err NotClean)
    unfolding lines_told content_lines unless
    read-unclean c = record { buffer = buffer-is; within = tt; count = tt; told = rw (short, ← lines_are, c) }

    module _ (c : all clean (cut_lines (take r b)) ≡ true) where
      pub read-unformed : all formed (cut_lines (take r b)) ≡ false → ReadLines s o b (Err NotContentLine)
      unfolding lines_told content_lines unless
      read-unformed f = record { buffer = buffer-is; within = tt; count = tt; told = rw (short, ← lines_are, c, f) }

      pub read-laid : all formed (cut_lines (take r b)) ≡ true → ReadLines s o b (Ok r)
      unfolding lines_told content_lines unless
      read-laid f = record { buffer = buffer-is; within = h; count = laid-there.count; told = rw (short, ← lines_are, c, f) }
