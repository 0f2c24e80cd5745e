-- Lines in order, line by line: what stands behind an END is in order, and no property is left there.
use Prim.Native.Nat.{ℕ, zero, suc, ◌+◌, ◌≤◌}
use mathlib.Core.Path.{◌≡◌, refl, sym}
use mathlib.Core.Bool.{Bool, true, false, not}
use mathlib.Core.List.{List, [], ◌∷◌}
use lib.ListN.{length, drop}
use Rattle.octets.specs.Basics.{octets, ◌and◌}
use Rattle.octets.specs.Answers.{Answer}
use Rattle.octets.proofs.Cases.{never, both, and_assoc, and-true-right}
use Rattle.json_text.specs.Tree.{items_of}
use Rattle.content.specs.Line.{Line}
use Rattle.conversion_theory.specs.Tree.{Property}
use Rattle.conversion_theory.specs.Structure.{Event, begins, ends, carries, stray}
use Rattle.jcal.specs.Events.{events_in, LineAt, line_told, TellsLine}
use Rattle.jcal.specs.Order.{may_stand, ends_here, ordered_from, OrderKept, EndTold}
use Rattle.jcal.specs.declared.events.LineKind.{LineKind}
use Rattle.jcal.specs.Components.{behind_end, level_at, properties_text}
use Rattle.jcal.proofs.OpenComponents.{events-none, events-told}
use Rattle.jcal.proofs.Levels.{level-none, level-begins, level-entered, level-ends, level-left, level-passed, level-stray, listed-none}

pub ordered-behind : (b : Bool) (k : ℕ) (es : List (Event Line)) → ordered_from b es ≡ true → ordered_from true (behind_end k es) ≡ true
unfolding ordered_from may_stand ends_here behind_end
ordered-behind b k [] h = refl
ordered-behind b k (begins n ∷ es) h = ordered-behind false (suc k) es h
ordered-behind b zero (ends n ∷ es) h = h
ordered-behind b (suc k) (ends n ∷ es) h = ordered-behind true k es h
ordered-behind b k (carries l ∷ es) h = ordered-behind false k es (both (not b) (ordered_from false es) h).1
ordered-behind b k (stray ∷ es) h = ordered-behind b k es h

-- directly behind an END line, or in a component within
abbrev Late : ℕ → Bool → Type 0
Late zero b = b ≡ true
Late (suc k) b = Unit {0}

module _ (f : Line → Answer Property) where
  none_left : (k : ℕ) (b : Bool) (es : List (Event Line)) → Late k b → ordered_from b es ≡ true → (level_at f k es).properties ≡ []
  unfolding ordered_from may_stand ends_here
  none_left k b [] l h = rw (level-none f k)
  none_left zero b (begins n ∷ es) l h = rw (level-begins f n es) (none_left 1 false es tt h)
  none_left (suc k) b (begins n ∷ es) l h = rw (level-entered f k n es) (none_left (suc (suc k)) false es tt h)
  none_left zero b (ends n ∷ es) l h = rw (level-ends f n es)
  none_left (suc zero) b (ends n ∷ es) l h = rw (level-left f 0 n es) (none_left 0 true es refl h)
  none_left (suc (suc k)) b (ends n ∷ es) l h = rw (level-left f (suc k) n es) (none_left (suc k) true es tt h)
  none_left zero b (carries a ∷ es) l h = never (both (not b) (ordered_from false es) h).0 (rw l)
  none_left (suc k) b (carries a ∷ es) l h = rw (level-passed f k a es) (none_left (suc k) false es tt (both (not b) (ordered_from false es) h).1)
  none_left k b (stray ∷ es) l h = rw (level-stray f k es) (none_left k b es l h)

  -- the first sub-component ends the properties
  pub properties-end : (first : Bool) (n : List ℕ) (es : List (Event Line)) → ordered_from false es ≡ true → properties_text f first (begins n ∷ es) ≡ octets "]"
  unfolding properties_text items_of
  properties-end first n es h = rw (level-begins f n es, none_left 1 false es tt h) (listed-none first)

-- one line more, and none
module _ (s : List ℕ) (i : ℕ) (kept behind : Bool) where
  pub order-on : (e : ℕ) (k : LineKind) (still ended : Bool) → LineAt s i e → TellsLine s i e k → OrderKept kept behind k still → EndTold behind k ended
      → (kept and ordered_from behind (events_in (drop i s))) ≡ (still and ordered_from ended (events_in (drop (e + 1) s)))
  unfolding ordered_from
  order-on e k still ended h t x y = rw (events-told s i e k h t, x s i, y s i) (sym (and_assoc kept (may_stand behind (line_told s i k)) _))

  pub order-end : length s ≤ i → (kept and ordered_from behind (events_in (drop i s))) ≡ kept
  unfolding ordered_from
  order-end h = rw (events-none s i h) (and-true-right kept)
