-- What is printed of a plan, and of a list that was lent, is what is printed of the definition's list.
use Prim.Native.Nat.{ℕ, ◌≤◌}
use mathlib.Core.Path.{◌≡◌, sym, ap, ◌∙◌}
use Rattle.std.specs.Prelude.{Ok, Err}
use mathlib.Core.Bool.{Bool, true, false, not}
use mathlib.Core.List.{List, ◌++◌, map}
use mathlib.Core.Option.{Option, none, some}
use native.Mathlib.Omega.{arith}
use borrow.Author.Tests.{leb-true}
use lib.Dec.{eqb, leb}
use lib.ListN.{length, take, drop, length-append}
use lib.Seq.{take_at}
use Rattle.octets.specs.Basics.{octets, ◌and◌, same}
use Rattle.octets.specs.Optional.{guard, given}
use Rattle.octets.specs.Decimal.{digits, value_of, trim}
use Rattle.octets.specs.Answers.{number, Answer, refused, accepted, then, or_else, unless}
use Rattle.octets.proofs.Cases.{both}
use Rattle.octets.proofs.Optional.{when-is}
use Rattle.octets.proofs.Answers.{numbered}
use Rattle.octets.specs.declared.Refusal.{Refusal}
use Rattle.calendar.specs.Moments.{read_moment}
use Rattle.calendar.specs.Rules.{read_rule}
use Rattle.calendar.specs.declared.moments.Moment.{Moment}
use Rattle.calendar.specs.declared.rules.Rule.{Rule}
use Rattle.recurrence_set.specs.Meets.{listed}
use Rattle.stop_list.specs.declared.Stop.{Stop}
use Rattle.stop_list.specs.declared.runs.Run.{Run}
use Rattle.stop_list.specs.Stops.{start_of, served, stop, list_of, ListSettled, list_answer, list_outcome}
use Rattle.stop_list.specs.Runs.{stops_of}
use Rattle.stop_list.specs.Plans.{list_told, Plans}
use Rattle.stops_page.specs.Printing.{head_shown, stops_shown, answer_shown, bad_input, most_stops, most_of, shown_for}

-- the plan of a start and a rule
module _ (start rule : List ℕ) (room : ℕ) where
  pub shows-stops : (r : Run) → Plans start rule room (Ok r) → (n : ℕ) → n ≡ length (stops_of r)
      → head_shown (octets "stops ") n ++ stops_shown 1 (stops_of r) ≡ answer_shown (list_of start rule room)
  unfolding list_told answer_shown
  shows-stops r e n c = rw c (ap answer_shown e.answer)

  pub shows-refusal : (why : Refusal) → Plans start rule room (Err why) → head_shown (octets "refused ") (number why) ≡ answer_shown (list_of start rule room)
  unfolding list_told answer_shown
  shows-refusal why e = ap answer_shown e.answer

-- a refusal has a number that is no 0
abbrev Numbered : Answer (List Stop) → Type 0
Numbered (refused k) = k ≡ 0 → ⊥
Numbered (accepted ss) = Unit {0}

list-numbered : (start rule : List ℕ) (room : ℕ) → Numbered (list_of start rule room)
unfolding list_of start_of
list-numbered start rule room = go (guard (λ (m : Moment). not (eqb m.second 60)) (read_moment start)) (read_rule rule)
  where
    last : (b : Bool) (ss : List Stop) → Numbered (unless 15 b (λ u. accepted ss))
    last true ss = unfold unless in tt
    last false ss = unfold unless in (λ e. omega arith)

    go : (o : Option Moment) (q : Option Rule) → Numbered (then (or_else 13 o) (λ m. then (or_else 14 q) (λ r. unless 15 (served r m.kind) (λ u. accepted (map stop (listed r m room))))))
    go none q = unfold then or_else in (λ e. omega arith)
    go (some m) none = unfold then or_else in (λ e. omega arith)
    go (some m) (some r) = unfold then or_else in last (served r m.kind) (map stop (listed r m room))

-- an answer and the list that it leaves
module _ (list old : List Stop) where
  left-stops : (n : ℕ) (a : Answer (List Stop)) → Numbered a → list_outcome (Ok n) list ≡ list_answer a old → (n ≤ length list) × (a ≡ accepted (take n list)) × (n ≡ length (take n list))
  unfolding list_outcome list_answer
  left-stops n (accepted ss) h e =
      let c : n ≡ length ss = ap (λ (f : ListSettled). f.count) e in
      let l : list ≡ ss ++ drop (length ss) old = ap (λ (f : ListSettled). f.list) e in
      let t : take n list ≡ ss = ap (take n) l ∙ take_at ss (drop (length ss) old) n (sym c) in
      (rw l (omega (arith, length-append ss (drop (length ss) old))), ap accepted (sym t), rw t c)
  left-stops n (refused k) h e = absurd (h (sym (ap (λ (f : ListSettled). f.number) e)))

  left-refusal : (why : Refusal) (a : Answer (List Stop)) → list_outcome (Err why) list ≡ list_answer a old → a ≡ refused (number why)
  unfolding list_outcome list_answer
  left-refusal why (accepted ss) e = absurd (numbered why (ap (λ (f : ListSettled). f.number) e))
  left-refusal why (refused k) e = ap refused (sym (ap (λ (f : ListSettled). f.number) e))

-- the page of a start and a rule: a list of records as it was, and as it is then
module _ (start rule : List ℕ) (old list : List Stop) where
  module _ (n : ℕ) (e : list_outcome (Ok n) list ≡ list_answer (list_of start rule (length old)) old) where
    left : (n ≤ length list) × (list_of start rule (length old) ≡ accepted (take n list)) × (n ≡ length (take n list))
    left = left-stops list old n (list_of start rule (length old)) (list-numbered start rule (length old)) e

    pub page-bound : n ≤ length list
    page-bound = left.0

    pub page-stops : head_shown (octets "stops ") n ++ stops_shown 1 (take n list) ≡ answer_shown (list_of start rule (length old))
    unfolding answer_shown
    page-stops = rw left.1 (ap (λ (k : ℕ). head_shown (octets "stops ") k ++ stops_shown 1 (take n list)) left.2)

  pub page-refusal : (why : Refusal) → list_outcome (Err why) list ≡ list_answer (list_of start rule (length old)) old
      → head_shown (octets "refused ") (number why) ≡ answer_shown (list_of start rule (length old))
  unfolding answer_shown
  page-refusal why e = rw (left-refusal list old why (list_of start rule (length old)) e)

-- the most stops are at most 64
pub most-bound : (line : List ℕ) (n : ℕ) → some n ≡ most_of line → n ≤ 64
unfolding most_of most_stops
most-bound line n e =
    let w = when-is (digits line and same (trim line) line and leb (value_of line) 64) (value_of line) n (sym e) in
    let b = leb-true (value_of line) 64 (both (same (trim line) line) _ (both (digits line) _ w.0).1).1 in
    let v = w.1 in omega arith

-- the last line's number decides what is shown
module _ (start rule line : List ℕ) where
  pub no-most : none ≡ most_of line → bad_input ≡ shown_for start rule line
  unfolding shown_for given
  no-most e = rw (← e)

  pub list-shown : (n k : ℕ) → some n ≡ most_of line → k ≡ n → answer_shown (list_of start rule k) ≡ shown_for start rule line
  unfolding shown_for given
  list-shown n k e d = rw (← e, d)
