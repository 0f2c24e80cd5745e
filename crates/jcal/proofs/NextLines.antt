-- What stands next in a component: the properties before it are passed over.
use Prim.Native.Nat.{ℕ, suc, ◌+◌, ◌-◌, ◌≤◌}
use mathlib.Core.Path.{◌≡◌, refl, sym, ap, ◌∙◌}
use mathlib.Core.Bool.{Bool, true, false, not}
use mathlib.Core.List.{List, [], ◌∷◌}
use native.Mathlib.Numerals.{add-one}
use native.Mathlib.Omega.{arith}
use lib.ListN.{length, drop}
use mathlib.Core.Logic.{◌⊎◌, inl, inr}
use Rattle.octets.specs.Basics.{all}
use Rattle.octets.specs.Answers.{Answer, refused, accepted, then}
use Rattle.octets.proofs.Cases.{never, both}
use Rattle.content.specs.Line.{Line}
use Rattle.conversion_theory.specs.Tree.{Property}
use Rattle.conversion_theory.specs.Structure.{Event, begins, ends, carries, stray}
use Rattle.jcal.specs.Events.{events_in, LineAt, name_from, line_told, TellsLine}
use Rattle.jcal.specs.Order.{may_stand, ends_here, ordered_from}
use Rattle.jcal.specs.Components.{is_accepted, reads, event_tested, each_tested, behind_end, next_of, level_at, subs_text}
use Rattle.jcal.specs.Placing.{ready, Behind, SubNext, EndNext}
use Rattle.jcal.specs.declared.events.LineKind.{LineKind}
use Rattle.jcal.specs.declared.events.LineKind.TheVariants.{Opens, Closes, Plain, Broken}
use Rattle.jcal.proofs.OpenComponents.{events-none, events-told}
use Rattle.jcal.proofs.Levels.{level-none, level-stray, level-ends, level_holds, reads-behind}
use Rattle.jcal.proofs.Order.{ordered-behind}
use Rattle.jcal.proofs.PropertyTests.{turn-passed}

-- what an accepted answer tests
pub accepts-tested : {A : Type 0} (a : Answer A) → is_accepted a ≡ true → accepted (tt {0}) ≡ then a (λ _. accepted tt)
unfolding is_accepted then
accepts-tested (refused n) h = never h refl
accepts-tested (accepted x) h = refl

module _ (f : Line → Answer Property) where
  pub next-subs : (es : List (Event Line)) → (level_at f 0 (next_of es)).subs ≡ (level_at f 0 es).subs
  unfolding next_of
  next-subs [] = rw (level-ends f [] [], level-none f 0)
  next-subs (begins n ∷ es) = refl
  next-subs (ends n ∷ es) = rw (level-ends f [] es, level-ends f n es)
  next-subs (carries l ∷ es) = rw (level_holds f l es) (next-subs es)
  next-subs (stray ∷ es) = rw (level-stray f 0 es) (next-subs es)

  pub next-text : (first : Bool) (es : List (Event Line)) → subs_text f first (next_of es) ≡ subs_text f first es
  unfolding subs_text
  next-text first es = rw (next-subs es)

  pub next-behind : (es : List (Event Line)) → behind_end 0 (next_of es) ≡ behind_end 0 es
  unfolding next_of behind_end
  next-behind [] = refl
  next-behind (begins n ∷ es) = refl
  next-behind (ends n ∷ es) = refl
  next-behind (carries l ∷ es) = next-behind es
  next-behind (stray ∷ es) = next-behind es

  pub ready-next : (b k : Bool) (es : List (Event Line)) → ready f b k es ≡ true → ready f b true (next_of es) ≡ true
  unfolding ready next_of ordered_from may_stand ends_here all reads
  ready-next true k [] h = refl
  ready-next false k [] h = refl
  ready-next b k (begins n ∷ es) h = h
  ready-next b k (ends n ∷ es) h = h
  ready-next true k (carries l ∷ es) h = ready-next true false es (both (not k) (ordered_from false es) h).1
  ready-next false k (carries l ∷ es) h = ready-next false k es (both (is_accepted (f l)) (all (reads f) es) h).1
  ready-next b k (stray ∷ es) h = ready-next b k es h

  pub ready-behind : (b k : Bool) (es : List (Event Line)) → ready f b k es ≡ true → ready f b true (behind_end 0 es) ≡ true
  unfolding ready
  ready-behind true k es h = ordered-behind k 0 es h
  ready-behind false k es h = reads-behind f 0 es h

  -- no property in fault is passed over
  pub next-tested : (b : Bool) (es : List (Event Line)) → ready f b true es ≡ true → each_tested f es ≡ each_tested f (next_of es)
  unfolding ready next_of ordered_from may_stand ends_here all reads event_tested
  next-tested b [] h = sym (turn-passed f (ends []) [] refl)
  next-tested b (begins n ∷ es) h = refl
  next-tested b (ends n ∷ es) h = turn-passed f (ends n) es refl ∙ sym (turn-passed f (ends []) es refl)
  next-tested true (carries l ∷ es) h = never h refl
  next-tested false (carries l ∷ es) h =
      let a = both (is_accepted (f l)) (all (reads f) es) h in
      turn-passed f (carries l) es (accepts-tested (f l) a.0) ∙ next-tested false es a.1
  next-tested b (stray ∷ es) h = turn-passed f stray es refl ∙ next-tested b es h

-- the walk to the END of a component, with `within` components open in it, and to what stands next
module _ (s : List ℕ) (from i : ℕ) (low : from ≤ i) where
  module _ (within : ℕ) (g : behind_end within (events_in (drop i s)) ≡ behind_end 0 (events_in (drop from s))) where
    module _ (e : ℕ) (h : LineAt s i e) where
      over : (k : LineKind) → TellsLine s i e k → behind_end within (line_told s i k ∷ events_in (drop (e + 1) s)) ≡ behind_end 0 (events_in (drop from s))
      over k t = sym (ap (behind_end within) (events-told s i e k h t)) ∙ g

      pub over-opens : (n : ℕ) → TellsLine s i e (Opens n) → behind_end (within + 1) (events_in (drop (e + 1) s)) ≡ behind_end 0 (events_in (drop from s))
      unfolding line_told behind_end
      over-opens n t = rw (add-one within) (over (Opens n) t)

      pub over-closes : (n : ℕ) → TellsLine s i e (Closes n) → (within ≡ 0 → ⊥) → behind_end (within - 1) (events_in (drop (e + 1) s)) ≡ behind_end 0 (events_in (drop from s))
      unfolding line_told behind_end
      over-closes n t z =
          let k : suc (within - 1) ≡ within = omega arith in
          ap (λ (w : ℕ). behind_end w (ends (name_from s n) ∷ events_in (drop (e + 1) s))) k ∙ over (Closes n) t

      pub over-end : (n : ℕ) → TellsLine s i e (Closes n) → within ≡ 0 → Behind s from (e + 1)
      unfolding line_told behind_end
      over-end n t z = record { rest = rw z at (over (Closes n) t); further = omega (arith, h.ends) }

      pub over-other : (k : LineKind) → (k ≡ Plain) ⊎ (k ≡ Broken) → TellsLine s i e k → behind_end within (events_in (drop (e + 1) s)) ≡ behind_end 0 (events_in (drop from s))
      unfolding line_told behind_end
      over-other k (inl p) t = over Plain (rw p at t)
      over-other k (inr b) t = over Broken (rw b at t)

    pub over_none : length s ≤ i → Behind s from i
    unfolding behind_end
    over_none h = let v = events-none s i h in record { rest = v ∙ sym (ap (behind_end within) v) ∙ g; further = low }

  module _ (g : next_of (events_in (drop i s)) ≡ next_of (events_in (drop from s))) where
    module _ (e : ℕ) (h : LineAt s i e) where
      upto : (k : LineKind) → TellsLine s i e k → next_of (line_told s i k ∷ events_in (drop (e + 1) s)) ≡ next_of (events_in (drop from s))
      upto k t = sym (ap next_of (events-told s i e k h t)) ∙ g

      pub next-other : (k : LineKind) → (k ≡ Plain) ⊎ (k ≡ Broken) → TellsLine s i e k → next_of (events_in (drop (e + 1) s)) ≡ next_of (events_in (drop from s))
      unfolding line_told next_of
      next-other k (inl p) t = upto Plain (rw p at t)
      next-other k (inr b) t = upto Broken (rw b at t)

      pub next-opens : (n : ℕ) → TellsLine s i e (Opens n) → SubNext s from (events_in (drop from s)) n e
      unfolding line_told next_of
      next-opens n t = record { is = upto (Opens n) t; named = t.names; further = omega (arith, h.ends) }

      pub next-closes : (n : ℕ) → TellsLine s i e (Closes n) → EndNext s from (events_in (drop from s)) (e + 1)
      unfolding line_told next_of
      next-closes n t = record { is = upto (Closes n) t; further = omega (arith, h.ends) }

    pub next-none : length s ≤ i → EndNext s from (events_in (drop from s)) i
    unfolding next_of
    next-none h = let v = events-none s i h in record { is = rw v (sym (ap next_of v) ∙ g); further = low }
