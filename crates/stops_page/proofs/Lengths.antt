-- A page is not longer than 2,715 octets: a head of 27, and 64 lines of 42.
use Prim.Native.Nat.{ℕ, suc, ◌+◌, ◌*◌, ◌≤◌}
use Prim.Native.Char.{code}
use mathlib.Core.Path.{◌≡◌, refl, sym}
use mathlib.Core.Bool.{Bool, true, false, not}
use mathlib.Core.List.{List, [], ◌∷◌, map}
use mathlib.Core.Option.{Option, none, some}
use native.Mathlib.Omega.{arith}
use lib.Dec.{eqb, leb}
use lib.ListN.{length, length-append, length-map, length-take}
use Rattle.octets.specs.Basics.{octets}
use Rattle.octets.specs.Pieces.{split}
use Rattle.octets.specs.Optional.{given, guard}
use Rattle.octets.specs.Decimal.{figures, decimal}
use Rattle.octets.specs.Limits.{most_text}
use Rattle.octets.specs.Pen.{pen, Wrote}
use Rattle.octets.specs.Answers.{Answer, refused, accepted, then, or_else, unless}
use Rattle.octets.proofs.Cases.{cases}
use Rattle.octets.proofs.Decimal.{figures-length, trim-length}
use Rattle.octets.proofs.Pen.{landed}
use Rattle.calendar.specs.Moments.{read_moment}
use Rattle.calendar.specs.Rules.{read_rule}
use Rattle.calendar.specs.declared.moments.Kind.{Kind}
use Rattle.calendar.specs.declared.moments.Kind.TheVariants.{Day, Local, Utc}
use Rattle.calendar.specs.declared.moments.Moment.{Moment}
use Rattle.calendar.specs.declared.rules.Rule.{Rule}
use Rattle.recurrence_set.specs.Meets.{listed}
use Rattle.stop_list.specs.declared.Stop.{Stop}
use Rattle.stop_list.specs.Stops.{start_of, served, stop, list_of}
use Rattle.stops_page.specs.Printing.{three_shown, date_shown, clock_shown, time_shown, moment_shown, stop_shown, stops_shown, head_shown, answer_shown, bad_input, most_of, shown_for, input_lines, lines_shown, printed}
use Rattle.stops_page.proofs.Answers.{most-bound}

decimal-short : (n : ℕ) → length (decimal n) ≤ 20
unfolding decimal
decimal-short n = let h = trim-length (figures 20 n) in let k = figures-length 20 n in omega arith

three-length : (w sep a b c : ℕ) → length (three_shown w sep a b c) ≡ w + 6
unfolding three_shown
three-length w sep a b c =
    rw (length-append, length-append, figures-length w a, figures-length 2 b, figures-length 2 c) (omega arith)

time-short : (k : Kind) (m : Moment) → length (time_shown k m) ≤ 10
unfolding time_shown clock_shown
time-short Day m = omega arith
time-short Local m = let h = three-length 2 (code ":") m.hour m.minute m.second in omega arith
time-short Utc m = rw length-append (let h = three-length 2 (code ":") m.hour m.minute m.second in omega arith)

stop-short : (i : ℕ) (s : Stop) → length (stop_shown i s) ≤ 42
unfolding stop_shown moment_shown date_shown
stop-short i s =
    rw (length-append, length-append, length-append)
    (let d = decimal-short i in
    let h = three-length 4 (code "-") s.moment.date.year s.moment.date.month s.moment.date.day in
    let t = time-short s.moment.kind s.moment in omega arith)

stops-short : (i : ℕ) (ss : List Stop) → length (stops_shown i ss) ≤ 42 * length ss
unfolding stops_shown
stops-short i [] = omega arith
stops-short i (s ∷ ss) = rw length-append (let h = stop-short i s in let k = stops-short (suc i) ss in omega arith)

head-short : (word : List ℕ) (n : ℕ) → length (head_shown word n) ≤ length word + 21
unfolding head_shown
head-short word n = rw (length-append, length-append) (let d = decimal-short n in omega arith)

-- not more moments than there is room for
listed-short : (r : Rule) (m : Moment) (n : ℕ) → length (listed r m n) ≤ n
unfolding listed
listed-short r m n = rw length-take (omega arith)

abbrev short : Answer (List Stop) → Type 0
short a = length (answer_shown a) ≤ 2715

refused-short : (n : ℕ) → short (refused n)
unfolding answer_shown
refused-short n = let h = head-short (octets "refused ") n in omega arith

accepted-short : (ss : List Stop) → length ss ≤ 64 → short (accepted ss)
unfolding answer_shown
accepted-short ss k = rw length-append (let h = head-short (octets "stops ") (length ss) in let t = stops-short 1 ss in omega arith)

list-short : (start rule : List ℕ) (n : ℕ) → n ≤ 64 → short (list_of start rule n)
unfolding list_of start_of
list-short start rule n k = by (guard (λ (m : Moment). not (eqb m.second 60)) (read_moment start)) (read_rule rule)
  where
    served-short : (b : Bool) (m : Moment) (r : Rule) → short (unless 15 b (λ u. accepted (map stop (listed r m n))))
    served-short true m r = unfold unless in accepted-short _ (let h = listed-short r m n in rw length-map (omega arith))
    served-short false m r = unfold unless in refused-short 15

    by : (o : Option Moment) (q : Option Rule) → short (then (or_else 13 o) (λ m. then (or_else 14 q) (λ r. unless 15 (served r m.kind) (λ u. accepted (map stop (listed r m n))))))
    by none q = unfold then or_else in refused-short 13
    by (some m) none = unfold then or_else in refused-short 14
    by (some m) (some r) = unfold then or_else in served-short (served r m.kind) m r

bad-short : length bad_input ≤ 2715
unfolding bad_input
bad-short = omega arith

for-short : (start rule line : List ℕ) → length (shown_for start rule line) ≤ 2715
unfolding shown_for
for-short start rule line = by (most_of line) refl
  where
    by : (o : Option ℕ) → most_of line ≡ o → length (given bad_input (λ n. answer_shown (list_of start rule n)) o) ≤ 2715
    by none e = unfold given in bad-short
    by (some n) e = unfold given in list-short start rule n (most-bound line n (sym e))

lines-short : (ls : List (List ℕ)) → length (lines_shown ls) ≤ 2715
unfolding lines_shown
lines-short [] = bad-short
lines-short (a ∷ []) = bad-short
lines-short (a ∷ b ∷ []) = bad-short
lines-short (a ∷ b ∷ c ∷ []) = for-short a b c
lines-short (a ∷ b ∷ c ∷ d ∷ ls) = bad-short

pub printed-short : (text : List ℕ) → length (printed text) ≤ 2715
unfolding printed
printed-short text = cases (leb (length text) most_text)
    (λ b. rw b (lines-short (input_lines (split (code "\n") text))))
    (λ b. rw b bad-short)

-- so a pen that writes it into a buffer with that much room stops within it
pub page-end : (o b text : List ℕ) (n : ℕ) → 2715 ≤ length o → Wrote (pen o 0) (printed text) (pen b n) → n ≤ 2715
page-end o b text n h w = let k = printed-short text in let e = (landed o (printed text) b n (omega arith) w).count in omega arith
