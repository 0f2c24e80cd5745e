-- A plan tells the definition's answer: a refusal, or the stops of its run; and what the run lays into a list.
use Prim.Native.Nat.{ℕ, ◌≤◌}
use Rattle.std.specs.Prelude.{Ok, Err}
use Rattle.std.specs.declared.result.Result.{Result}
use mathlib.Core.Path.{◌≡◌, refl, sym, ap, ◌∙◌}
use mathlib.Core.Bool.{true, false}
use mathlib.Core.List.{List, map, map-map}
use mathlib.Core.Option.{none, some}
use native.Mathlib.Omega.{arith}
use borrow.Author.Tests.{eq-eqb, ne_eqb}
use lib.ListN.{length, take}
use Rattle.octets.specs.Optional.{guard, when}
use Rattle.octets.specs.Answers.{number, refused, accepted, then, or_else, unless}
use Rattle.octets.specs.declared.Refusal.{Refusal}
use Rattle.octets.specs.declared.Refusal.TheVariants.{BadStart, BadRule, NotServed}
use Rattle.calendar.specs.Moments.{read_moment, is_moment}
use Rattle.calendar.specs.Rules.{read_rule}
use Rattle.calendar.specs.declared.moments.Moment.{Moment}
use Rattle.calendar.specs.declared.rules.End.{End}
use Rattle.calendar.specs.declared.rules.End.TheVariants.{Count, Until, Open}
use Rattle.calendar.specs.declared.rules.Rule.{Rule}
use Rattle.calendar.proofs.NamedMoments.{read_real}
use Rattle.recurrence_set.specs.declared.Series.{Series}
use Rattle.recurrence_set.specs.Lists.{due}
use Rattle.recurrence_set.specs.Meets.{moment_at, listed}
use Rattle.recurrence_set.specs.Searches.{room_of, series_of, meets_at, real_end}
use Rattle.recurrence_set.proofs.Ending.{series-founded, ended-limited}
use Rattle.stop_list.specs.declared.Stop.{Stop}
use Rattle.stop_list.specs.declared.runs.Run.{Run}
use Rattle.stop_list.specs.Stops.{start_of, served, stop, list_of, list_answer, list_outcome}
use Rattle.stop_list.specs.Runs.{stop_in, stops_from, stops_of, Live, StopsLaid}
use Rattle.stop_list.specs.Plans.{list_told, Plans}
use Rattle.calendar.proofs.RuleFacts.{rule-interval}
use Rattle.stop_list.proofs.Ends.{rule-real}

less-room : (e : End) (room : ℕ) → room_of e room ≤ room
unfolding room_of
less-room (Count n) room = omega arith
less-room (Until u) room = omega arith
less-room Open room = omega arith

-- the stops of a series from its start on are the definition's
series-stops : (m : Moment) (r : Rule) (room : ℕ) → is_moment m ≡ true → real_end r.end
    → stops_from (series_of m r) (room_of r.end room) (series_of m r).place ≡ map stop (listed r m room)
series-stops m r room a b =
    here ∙ sym (ap (map stop) (ended-limited r m a b room) ∙ again (take (room_of r.end room) (due (meets_at (series_of m r)) (series_of m r).places (series_of m r).place)))
  where
    again : (ns : List ℕ) → map stop (map (moment_at r.frequency m) ns) ≡ map (stop_in (series_of m r)) ns
    again ns = unfold stop_in series_of in map-map stop (moment_at r.frequency m) ns

    here : stops_from (series_of m r) (room_of r.end room) (series_of m r).place ≡ map (stop_in (series_of m r)) (take (room_of r.end room) (due (meets_at (series_of m r)) (series_of m r).places (series_of m r).place))
    here = unfold stops_from in refl

told_run : (run : Run) → list_told (Ok run) ≡ accepted (stops_from run.series run.room run.from)
unfolding list_told stops_of
told_run run = refl

of_same : (P : Run → Type 0) (a b : Run) → ◌≡◌ {A = Result Run Refusal} (Ok a) (Ok b) → P a → P b
of_same P a b e h = let z : a ≡ b = cc in rw (← z) h

-- what the code's readings tell of the plan
module _ (start rule : List ℕ) (room : ℕ) where
  -- a refusal is the definition's
  refuses : (why : Refusal) → refused (number why) ≡ list_of start rule room → Plans start rule room (Err why)
  refuses why e = record { answer = unfold list_told in e; live = λ r d. absurd (cc); fits = λ r d. absurd (cc) }

  pub no_start : none ≡ read_moment start → Plans start rule room (Err BadStart)
  no_start e = refuses BadStart (unfold list_of start_of guard then or_else in rw (← e))

  module _ (m : Moment) (e : some m ≡ read_moment start) where
    pub at-60 : m.second ≡ 60 → Plans start rule room (Err BadStart)
    at-60 h = refuses BadStart (unfold list_of start_of guard when then or_else in rw (← e, eq-eqb m.second 60 h))

    module _ (n : m.second ≡ 60 → ⊥) where
      pub no-rule : none ≡ read_rule rule → Plans start rule room (Err BadRule)
      no-rule f = refuses BadRule (unfold list_of start_of guard when then or_else in rw (← e, ne_eqb m.second 60 n, ← f))

      module _ (r : Rule) (f : some r ≡ read_rule rule) where
        pub not-served : served r m.kind ≡ false → Plans start rule room (Err NotServed)
        not-served s = refuses NotServed (unfold list_of start_of guard when then or_else unless in rw (← e, ne_eqb m.second 60 n, ← f, s))

        pub is-planned : (s : Series) → (is_moment m ≡ true → real_end r.end → s ≡ series_of m r) → served r m.kind ≡ true
            → (run : Run) → run.series ≡ s → run.from ≡ s.place → run.room ≡ room_of r.end room → Plans start rule room (Ok run)
        is-planned s h t run q b k =
            record {
              answer = told;
              live = λ w d. of_same Live run w d may;
              fits = λ w d. of_same (λ z. z.room ≤ room) run w d (rw k (less-room r.end room));
            }
          where
            lists : accepted (map stop (listed r m room)) ≡ list_of start rule room
            lists = unfold list_of start_of guard when then or_else unless in rw (← e, ne_eqb m.second 60 n, ← f, t)

            real : is_moment m ≡ true
            real = read_real start m (sym e)

            ends : real_end r.end
            ends = rule-real rule r (sym f)

            may : Live run
            may = record { founded = rw (q, h real ends) (series-founded m r real (rule-interval rule r (sym f))); from = rw (q, b) (omega arith) }

            told : list_told (Ok run) ≡ list_of start rule room
            told = told_run run ∙ ap accepted (rw (q, b, k, h real ends) (series-stops m r room real ends)) ∙ lists

-- laid into a list, that is what the list holds then
pub refusal_lists : (start rule : List ℕ) (ys : List Stop) (why : Refusal) → Plans start rule (length ys) (Err why) → list_outcome (Err why) ys ≡ list_answer (list_of start rule (length ys)) ys
unfolding list_told list_outcome list_answer
refusal_lists start rule ys why t = rw (← t.answer)

pub run_lists : (start rule : List ℕ) (ys us : List Stop) (n : ℕ) (r : Run) → Plans start rule (length ys) (Ok r) → StopsLaid (stops_of r) ys us n
    → list_outcome (Ok n) us ≡ list_answer (list_of start rule (length ys)) ys
unfolding list_told list_outcome list_answer
run_lists start rule ys us n r t l = rw (← t.answer) (cc (l.count, l.list))
