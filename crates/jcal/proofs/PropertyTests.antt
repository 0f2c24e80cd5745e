-- The tests of the properties, line by line.
use Prim.Native.Nat.{ℕ, ◌+◌, ◌-◌, ◌≤◌}
use mathlib.Core.Path.{◌≡◌, refl, sym, ap, ◌∙◌}
use mathlib.Core.List.{List, ◌∷◌}
use native.Mathlib.Omega.{arith}
use lib.ListN.{length, take, drop}
use Rattle.octets.specs.Answers.{Answer, refused, accepted, then}
use Rattle.types.specs.Table.{Table}
use Rattle.content.specs.Line.{Line, line_of}
use Rattle.content.specs.Reading.{room_for_lines}
use Rattle.conversion_theory.specs.Tree.{Property}
use Rattle.conversion_theory.specs.Structure.{Event, begins, ends, carries, stray}
use Rattle.conversion_theory.specs.Growth.{behind_event, each_property}
use Rattle.conversion_theory.specs.Property.{read_property}
use Rattle.jcal_properties.specs.Placed.{line_read}
use Rattle.jcal_properties.proofs.PropertyParts.{line-fits}
use Rattle.jcal.specs.Events.{event_at, events_in, line_from, LineAt, line_told, TellsLine}
use Rattle.jcal.specs.Components.{event_tested, each_tested}
use Rattle.jcal.specs.declared.events.LineKind.{LineKind}
use Rattle.jcal.specs.declared.events.LineKind.TheVariants.{Opens, Closes, Plain, Broken}
use Rattle.jcal.proofs.LineKinds.{line-is}
use Rattle.jcal.proofs.OpenComponents.{events-here, events-none}

behind-tested : (e : Event Property) (a : Answer (List (Event Property))) → then (behind_event e a) (λ _. accepted (tt {0})) ≡ then a (λ _. accepted tt)
unfolding then behind_event
behind-tested e (refused n) = refl
behind-tested e (accepted es) = refl

module _ (f : Line → Answer Property) where
  holds-tested : (a : Answer Property) (es : List (Event Line)) → then (then a (λ b. behind_event (carries b) (each_property f es))) (λ _. accepted tt) ≡ then (then a (λ _. accepted (tt {0}))) (λ _. each_tested f es)
  unfolding then
  holds-tested (refused n) es = refl
  holds-tested (accepted b) es = behind-tested (carries b) (each_property f es)

  turn : (e : Event Line) (es : List (Event Line)) → each_tested f (e ∷ es) ≡ then (event_tested f e) (λ _. each_tested f es)
  unfolding each_property event_tested
  turn (begins n) es = behind-tested (begins n) (each_property f es) ∙ (unfold then in refl)
  turn (ends n) es = behind-tested (ends n) (each_property f es) ∙ (unfold then in refl)
  turn (carries l) es = holds-tested (f l) es
  turn stray es = unfold then in refl

  -- an event that passes, and one that fails
  pub turn-passed : (e : Event Line) (es : List (Event Line)) → accepted tt ≡ event_tested f e → each_tested f (e ∷ es) ≡ each_tested f es
  turn-passed e es t = turn e es ∙ ap (λ (a : Answer (Unit {0})). then a (λ _. each_tested f es)) (sym t) ∙ (unfold then in refl)

  pub turn-failed : (e : Event Line) (es : List (Event Line)) (n : ℕ) → refused n ≡ event_tested f e → each_tested f (e ∷ es) ≡ refused n
  turn-failed e es n t = turn e es ∙ ap (λ (a : Answer (Unit {0})). then a (λ _. each_tested f es)) (sym t) ∙ (unfold then in refl)

  module _ (s : List ℕ) (i : ℕ) where
    pub turn-none : length s ≤ i → accepted tt ≡ each_tested f (events_in (drop i s))
    unfolding each_property then
    turn-none h = rw (events-none s i h)

    module _ (e : ℕ) (h : LineAt s i e) where
      pub turn_on : accepted tt ≡ event_tested f (event_at (line_from s i)) → each_tested f (events_in (drop i s)) ≡ each_tested f (events_in (drop (e + 1) s))
      turn_on t = ap (each_tested f) (events-here s i e h) ∙ turn-passed (event_at (line_from s i)) (events_in (drop (e + 1) s)) t

      pub turn-off : (n : ℕ) → refused n ≡ event_tested f (event_at (line_from s i)) → refused n ≡ each_tested f (events_in (drop i s))
      turn-off n t = sym (ap (each_tested f) (events-here s i e h) ∙ turn-failed (event_at (line_from s i)) (events_in (drop (e + 1) s)) n t)

-- a line of a buffer, as a slice lends it
pub line_read_lem : (t : Table) (s : List ℕ) (i e : ℕ) → LineAt s i e → length s ≤ room_for_lines → line_read t (take (e - i) (drop i s)) ≡ read_property t (line_of (line_from s i))
line_read_lem t s i e h l = rw (line-is s i e h) (line-fits t (line_from s i) (unfold line_from in omega (arith, h.ends, h.high, l)))

-- the test of a line of which is told
module _ (f : Line → Answer Property) (s : List ℕ) (i e : ℕ) where
  pub other-tested : (k : LineKind) → (k ≡ Plain → ⊥) → TellsLine s i e k → accepted tt ≡ event_tested f (event_at (line_from s i))
  unfolding line_told event_tested
  other-tested (Opens n) o t = rw (← t.is)
  other-tested (Closes n) o t = rw (← t.is)
  other-tested Plain o t = absurd (o refl)
  other-tested Broken o t = rw (← t.is)

  pub plain-tested : TellsLine s i e Plain → then (f (line_of (line_from s i))) (λ _. accepted (tt {0})) ≡ event_tested f (event_at (line_from s i))
  unfolding line_told event_tested
  plain-tested t = rw (← t.is)
