-- The walk over the lines of a component for its properties: what each line adds to what is left to write, and to what is tested.
use Prim.Native.Nat.{ℕ, ◌+◌, ◌≤◌}
use mathlib.Core.Path.{◌≡◌, refl, ap, ◌∙◌}
use mathlib.Core.Bool.{Bool, true, false}
use mathlib.Core.List.{List, [], ◌∷◌, ◌++◌, append_assoc}
use native.Mathlib.Omega.{arith}
use lib.ListN.{length, drop}
use Rattle.octets.specs.Basics.{octets, all}
use Rattle.octets.specs.Pen.{Pen, pen, Wrote}
use Rattle.octets.specs.Answers.{Answer, refused, then}
use Rattle.octets.proofs.Cases.{never, both}
use Rattle.octets.proofs.Pen.{then as behind-it, Leads, leads-start, leads-on, leads-same, leads-last}
use Rattle.content.specs.Line.{Line, line_of}
use Rattle.conversion_theory.specs.Tree.{Property}
use Rattle.conversion_theory.specs.Structure.{Event, begins, ends, carries, stray}
use Rattle.jcal_properties.specs.Placed.{Places as PlacesProperty}
use Rattle.std.specs.declared.result.Result.{Result}
use Rattle.std.specs.Prelude.{Ok, Err}
use Rattle.octets.specs.declared.Refusal.{Refusal}
use Rattle.jcal.specs.Events.{events_in, line_from, LineAt, name_from, line_told, TellsLine}
use Rattle.jcal.specs.Order.{may_stand, ends_here, ordered_from}
use Rattle.jcal.specs.Components.{property_or, is_accepted, reads, event_tested, each_tested, next_of, leading_comma, properties_text}
use Rattle.jcal.specs.Placing.{ready, ItemStands, PlacesItem, Behind, EndNext, Finds, place_of, PartWritten}
use Rattle.jcal.specs.declared.components.NextItem.{NextItem}
use Rattle.jcal.specs.declared.components.NextItem.TheVariants.{Sub, Close}
use Rattle.jcal.specs.declared.events.LineKind.{LineKind}
use Rattle.jcal.specs.declared.events.LineKind.TheVariants.{Opens, Closes, Plain, Broken}
use Rattle.jcal.proofs.OpenComponents.{events-none, events-told}
use Rattle.jcal.proofs.Levels.{reads-behind, properties-none, properties-stray, properties-ends, properties-begins, properties-holds, not-refused}
use Rattle.jcal.proofs.Order.{properties-end}
use Rattle.jcal.proofs.PropertyTests.{turn-passed, turn-failed}
use Rattle.jcal.proofs.NextLines.{accepts-tested, next-tested}

-- a comma and a property are an item
pub item-placed : (a : Answer Property) (first : Bool) (out : List ℕ) (r : Result ℕ Refusal) {p m : Pen} → Wrote p (leading_comma first) m → PlacesProperty a m out r → PlacesItem a first p out r
unfolding is_accepted property_or
item-placed a first out (Ok q) w z = record { accepts = rw z.read; wrote = rw z.read (behind-it w z.wrote) }
item-placed a first out (Err why) w z = z.0

-- what stands next is found from an earlier line on
pub finds-from : (s : List ℕ) (i j : ℕ) (es fs : List (Event Line)) (r : NextItem) → i ≤ j → es ≡ fs → Finds s j es r → Finds s i fs r
finds-from s i j es fs (Sub n e at) l v z = record { is = rw v at z.is; named = z.named; further = omega (arith, z.further) }
finds-from s i j es fs (Close k at) l v z = record { is = rw v at z.is; further = omega (arith, z.further) }

and-more : {x y : List ℕ} → x ≡ y → x ++ octets ",[" ≡ y ++ octets ",["
and-more e = rw e

-- from the events is on, of the events es of the component
pub record Held (f : Line → Answer Property) (b : Bool) (es : List (Event Line)) (p : Pen) (is : List (Event Line)) (first : Bool) (q : Pen) : Type 0 where
  pub leads : Leads p (properties_text f true es ++ octets ",[") q (properties_text f first is ++ octets ",[")
  pub whole : ready f b false es ≡ true
  pub fit : ready f b false is ≡ true
  pub passed : b ≡ true → (next_of is ≡ next_of es) × (each_tested f es ≡ each_tested f is)

pub held_start : (f : Line → Answer Property) (b : Bool) (es : List (Event Line)) (p : Pen) → ready f b false es ≡ true → Held f b es p es true p
held_start f b es p h = record { leads = leads-start; whole = h; fit = h; passed = λ _. (refl, refl) }

ready_held : (f : Line → Answer Property) (b : Bool) (l : Line) (fs : List (Event Line)) → ready f b false (carries l ∷ fs) ≡ true → ready f b false fs ≡ true
unfolding ready ordered_from may_stand ends_here all reads
ready_held f true l fs h = h
ready_held f false l fs h = (both (is_accepted (f l)) (all (reads f) fs) h).1

ready-accepts : (f : Line → Answer Property) (l : Line) (fs : List (Event Line)) → ready f false false (carries l ∷ fs) ≡ true → is_accepted (f l) ≡ true
unfolding ready all reads
ready-accepts f l fs h = (both (is_accepted (f l)) (all (reads f) fs) h).0

ready-none : (f : Line → Answer Property) (b : Bool) → ready f b true [] ≡ true
unfolding ready ordered_from all
ready-none f true = refl
ready-none f false = refl

module _ (f : Line → Answer Property) (s : List ℕ) (from : ℕ) (b : Bool) (es : List (Event Line)) (p : Pen) (i : ℕ) (first : Bool) (q : Pen)
    (g : Held f b es p (events_in (drop i s)) first q) where
  -- what is tested up to here is all that is tested before what stands next
  up_to : (o : Bool) (is : List (Event Line)) → Held f o es p is first q → ready f o true is ≡ true → each_tested f es ≡ each_tested f (next_of es)
  up_to true is x r = (x.passed refl).1 ∙ next-tested f true is r ∙ ap (each_tested f) (x.passed refl).0
  up_to false is x r = next-tested f false es (unfold ready in x.whole)

  module _ (e : ℕ) (h : LineAt s i e) where
    abbrev next : List (Event Line)
    next = events_in (drop (e + 1) s)

    here : (k : LineKind) → TellsLine s i e k → Held f b es p (line_told s i k ∷ next) first q
    here k t = rw (events-told s i e k h t) at g

    -- a property
    module _ (t : TellsLine s i e Plain) where
      abbrev line : Line
      line = line_of (line_from s i)

      holds-here : Held f b es p (carries line ∷ next) first q
      unfolding line_told
      holds-here = here Plain t

      pub held-item : (r : Pen) → ItemStands (f line) first q r → Held f b es p next false r
      unfolding next_of event_tested
      held-item r w = record {
        leads = leads-on holds-here.leads w.wrote (and-more (properties-holds f first line next) ∙ simp append_assoc);
        whole = g.whole;
        fit = ready_held f b line next holds-here.fit;
        passed = λ o. ((holds-here.passed o).0, (holds-here.passed o).1 ∙ turn-passed f (carries line) next (accepts-tested (f line) w.accepts));
      }

      held-refused-by : (o : Bool) → Held f o es p (carries line ∷ next) first q → (n : ℕ) → f line ≡ refused n → each_tested f es ≡ refused n
      unfolding event_tested then
      held-refused-by true x n r = (x.passed refl).1 ∙ turn-failed f (carries line) next n (rw r)
      held-refused-by false x n r = not-refused (f line) n (ready-accepts f line next x.fit) r

      pub held-refused : (n : ℕ) → f line ≡ refused n → each_tested f es ≡ refused n
      held-refused n r = held-refused-by b holds-here n r

    -- a BEGIN
    module _ (n : ℕ) (t : TellsLine s i e (Opens n)) where
      begins-here : Held f b es p (begins (name_from s n) ∷ next) first q
      unfolding line_told
      begins-here = here (Opens n) t

      pub held-sub : b ≡ true → from ≤ i → (out : List ℕ) (at : ℕ) → Wrote q (octets "],[") (pen out at) → PartWritten f s from es es p (properties_text f true es ++ octets ",[") out (Sub n e at)
      unfolding ready next_of ordered_from may_stand ends_here
      held-sub o l out at w =
          let x : Held f true es p (begins (name_from s n) ∷ next) first q = rw o at begins-here in
          record {
            finds = record { is = (x.passed refl).0; named = t.names; further = omega (arith, h.ends) };
            wrote = leads-last x.leads w (and-more (properties-end f first (name_from s n) next x.fit));
            tested = up_to true (begins (name_from s n) ∷ next) x x.fit;
          }

      pub held-over : b ≡ false → (r : ℕ) → Behind s (e + 1) r → Held f b es p (events_in (drop r s)) first q
      unfolding ready all reads
      held-over o r z =
          let x : Held f false es p (begins (name_from s n) ∷ next) first q = rw o at begins-here in
          rw z.rest record {
            leads = leads-same x.leads (and-more (properties-begins f first (name_from s n) next));
            whole = g.whole;
            fit = rw o (reads-behind f 0 next x.fit);
            passed = λ c. never c o;
          }

    -- the END of the component
    module _ (n : ℕ) (t : TellsLine s i e (Closes n)) where
      ends-here : Held f b es p (ends (name_from s n) ∷ next) first q
      unfolding line_told
      ends-here = here (Closes n) t

      pub ends_next : b ≡ true → from ≤ i → EndNext s from es (e + 1)
      unfolding next_of
      ends_next o l = record { is = (ends-here.passed o).0; further = omega (arith, h.ends) }

      pub held-ends : (out : List ℕ) (r : NextItem) → Finds s from es r → Wrote q (octets "],[") (pen out (place_of r)) → PartWritten f s from es es p (properties_text f true es ++ octets ",[") out r
      unfolding ready ordered_from may_stand ends_here
      held-ends out r z w = record {
        finds = z;
        wrote = leads-last ends-here.leads w (and-more (properties-ends f first (name_from s n) next));
        tested = up_to b (ends (name_from s n) ∷ next) ends-here ends-here.fit;
      }

    -- a BEGIN or END that is neither
    module _ (t : TellsLine s i e Broken) where
      stray-here : Held f b es p (stray ∷ next) first q
      unfolding line_told
      stray-here = here Broken t

      pub held-broken : Held f b es p next first q
      unfolding ready next_of ordered_from may_stand ends_here all reads event_tested
      held-broken = record {
        leads = leads-same stray-here.leads (and-more (properties-stray f first next));
        whole = g.whole;
        fit = stray-here.fit;
        passed = λ o. ((stray-here.passed o).0, (stray-here.passed o).1 ∙ turn-passed f stray next refl);
      }

  -- no line is left
  module _ (l : length s ≤ i) where
    none_here : Held f b es p [] first q
    none_here = rw (events-none s i l) at g

    pub none-next : b ≡ true → from ≤ i → EndNext s from es i
    unfolding next_of
    none-next o k = record { is = rw (events-none s i l) (none_here.passed o).0; further = k }

    pub held_none : (out : List ℕ) (r : NextItem) → Finds s from es r → Wrote q (octets "],[") (pen out (place_of r)) → PartWritten f s from es es p (properties_text f true es ++ octets ",[") out r
    held_none out r z w = record {
      finds = z;
      wrote = leads-last none_here.leads w (and-more (properties-none f first));
      tested = up_to b [] none_here (ready-none f b);
    }
