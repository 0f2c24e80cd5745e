-- The walk over the sub-components of a component: what each adds to what is left to write, and to what is tested.
use Prim.Native.Nat.{ℕ, suc, ◌+◌, ◌-◌, ◌≤◌, ◌<◌}
use mathlib.Core.Path.{◌≡◌, refl, sym, ap, ◌∙◌}
use mathlib.Core.Bool.{Bool, true, false}
use mathlib.Core.List.{List, [], ◌∷◌, ◌++◌, append_assoc}
use native.Mathlib.Omega.{arith}
use lib.ListN.{length, drop}
use Rattle.octets.specs.Basics.{octets, all}
use Rattle.octets.specs.Pen.{Pen, pen, Wrote}
use Rattle.octets.specs.Answers.{Answer}
use Rattle.octets.proofs.Pen.{then, as-text, Leads, leads-start, leads-on, leads-same, leads-last}
use Rattle.json_text.specs.Print.{print}
use Rattle.content.specs.Line.{Line}
use Rattle.conversion_theory.specs.Tree.{Property, Component, levels, levels_in}
use Rattle.conversion_theory.specs.Structure.{Event, begins, ends}
use Rattle.conversion_theory.specs.Jcal.{jcal_of}
use Rattle.jcal.specs.Events.{events_in, name_from, Named}
use Rattle.jcal.specs.Order.{may_stand, ends_here, ordered_from}
use Rattle.jcal.specs.Components.{reads, event_tested, each_tested, behind_end, next_of, level_at, component_at, leading_comma, properties_text, subs_text, name_text}
use Rattle.jcal.specs.Placing.{ready, Finds, place_of, NextFound, PartWritten}
use Rattle.jcal.specs.declared.components.NextItem.{NextItem}
use Rattle.jcal.specs.declared.components.NextItem.TheVariants.{Sub, Close}
use Rattle.jcal.proofs.Levels.{few-opens, behind-within, subs-ends, subs-begins, component-text}
use Rattle.jcal.proofs.PropertyTests.{turn-passed}
use Rattle.jcal.proofs.NextLines.{next-subs, next-text, next-behind, ready-next, ready-behind, next-tested}
use Rattle.jcal.proofs.Properties.{finds-from}

-- what is left of the sub-components from the events ns on, with so many levels left
pub record Subs (f : Line → Answer Property) (b : Bool) (es : List (Event Line)) (r₀ : NextItem) (out₀ : List ℕ) (left : ℕ) (first : Bool) (ns : List (Event Line)) (q : Pen) : Type 0 where
  pub leads : Leads (pen out₀ (place_of r₀)) (subs_text f true es ++ octets "]") q (subs_text f first ns ++ octets "]")
  pub behind : behind_end 0 ns ≡ behind_end 0 es
  pub tested : each_tested f es ≡ each_tested f ns
  pub fit : ready f b true ns ≡ true
  pub few : suc (levels_in (level_at f 0 ns).subs) ≤ left

-- by what stands next
abbrev pub Going : (Line → Answer Property) → List ℕ → ℕ → Bool → List (Event Line) → NextItem → List ℕ → ℕ → Bool → List ℕ → NextItem → Type 0
Going f s from b es r₀ out₀ left first out (Sub n e at) = Named s n e × (from ≤ e) × Subs f b es r₀ out₀ left first (begins (name_from s n) ∷ events_in (drop (e + 1) s)) (pen out at)
Going f s from b es r₀ out₀ left first out (Close j at) = (from ≤ j) × Subs f b es r₀ out₀ left first (ends [] ∷ events_in (drop j s)) (pen out at)

-- how much stands behind it: nothing where the walk ends
abbrev pub behind_it : List ℕ → NextItem → ℕ
behind_it s (Sub n e at) = suc (length s - e)
behind_it s (Close j at) = 0

module _ (f : Line → Answer Property) (s : List ℕ) (from : ℕ) (b : Bool) (es : List (Event Line)) (r₀ : NextItem) (out₀ : List ℕ) (left : ℕ) where
  -- the events from what stands next in fs on
  subs-next : (first : Bool) (k : Bool) (fs : List (Event Line)) (q : Pen) → Leads (pen out₀ (place_of r₀)) (subs_text f true es ++ octets "]") q (subs_text f first fs ++ octets "]")
      → behind_end 0 fs ≡ behind_end 0 es → each_tested f es ≡ each_tested f (next_of fs) → ready f b k fs ≡ true → suc (levels_in (level_at f 0 fs).subs) ≤ left
      → Subs f b es r₀ out₀ left first (next_of fs) q
  subs-next first k fs q l h x y z = record {
    leads = leads-same l (ap (λ (r : List ℕ). r ++ octets "]") (sym (next-text f first fs)));
    behind = next-behind f fs ∙ h;
    tested = x;
    fit = ready-next f b k fs y;
    few = rw (next-subs f fs) z;
  }

  going_next : (i : ℕ) (fs : List (Event Line)) (first : Bool) (out : List ℕ) (r : NextItem) → from ≤ i → Finds s i fs r → Subs f b es r₀ out₀ left first (next_of fs) (pen out (place_of r))
      → Going f s from b es r₀ out₀ left first out r
  going_next i fs first out (Sub n e at) l x g = (x.named, omega (arith, x.further), rw x.is g)
  going_next i fs first out (Close j at) l x g = (omega (arith, x.further), rw x.is g)

-- the first one
module _ (f : Line → Answer Property) (s : List ℕ) (from : ℕ) (b : Bool) (es : List (Event Line)) (left : ℕ) (n : List ℕ) (p : Pen) (text out : List ℕ) where
  pub going_start : (r : NextItem) → PartWritten f s from es es p text out r → ready f b false es ≡ true → levels (component_at f n es) ≤ left → Going f s from b es r out left true out r
  unfolding levels component_at
  going_start r z h k =
      going_next f s from b es r out left from es true out r (omega arith) z.finds (subs-next f s from b es r out left true false es (pen out (place_of r)) leads-start refl z.tested h k)

module _ (f : Line → Answer Property) (s : List ℕ) (from : ℕ) (b : Bool) (es : List (Event Line)) (r₀ : NextItem) (out₀ : List ℕ) (left : ℕ) (first : Bool) (out : List ℕ) where
  -- a sub-component
  module _ (n e at : ℕ) (g : Going f s from b es r₀ out₀ left first out (Sub n e at)) where
    abbrev next : List (Event Line)
    next = events_in (drop (e + 1) s)

    abbrev sub : Component
    sub = component_at f (name_from s n) next

    pub sub-ready : ready f b false next ≡ true
    unfolding ready ordered_from may_stand ends_here all reads
    sub-ready = g.2.fit

    sub-levels : (levels sub ≤ left - 1) × (1 ≤ left) × (suc (levels_in (level_at f 0 (behind_end 0 next)).subs) ≤ left)
    unfolding levels component_at
    sub-levels = few-opens f left (name_from s n) next g.2.few

    pub sub-few : levels sub ≤ left - 1
    sub-few = sub-levels.0

    pub left-some : 1 ≤ left
    left-some = sub-levels.1

    sub-text : subs_text f first (begins (name_from s n) ∷ next) ++ octets "]" ≡ leading_comma first ++ (print (jcal_of sub) ++ (subs_text f false (behind_end 0 next) ++ octets "]"))
    sub-text = ap (λ (r : List ℕ). r ++ octets "]") (subs-begins f first (name_from s n) next) ∙ append_assoc (leading_comma first) _ _ ∙ ap (λ (v : List ℕ). leading_comma first ++ v) (append_assoc (print (jcal_of sub)) _ _)

    sub-behind : behind_end 0 (behind_end 0 next) ≡ behind_end 0 es
    unfolding behind_end
    sub-behind = sym (behind-within f 0 next) ∙ g.2.behind

    pub sub-tested : each_tested f es ≡ each_tested f next
    unfolding event_tested
    sub-tested = g.2.tested ∙ turn-passed f (begins (name_from s n)) next refl

    pub sub-less : (m : Pen) (o : List ℕ) (r : NextItem) → PartWritten f s (e + 1) next (behind_end 0 next) m (print (jcal_of sub)) o r → behind_it s r < suc (length s - e)
    sub-less m o (Sub k j a) z = omega (arith, z.finds.named.high, z.finds.further)
    sub-less m o (Close j a) z = omega arith

    pub sub-goes : (m : Pen) (o : List ℕ) (r : NextItem) → Wrote (pen out at) (leading_comma first) m → PartWritten f s (e + 1) next (behind_end 0 next) m (print (jcal_of sub)) o r
        → Going f s from b es r₀ out₀ left false o r
    sub-goes m o r w z =
        going_next f s from b es r₀ out₀ left (e + 1) (behind_end 0 next) false o r (omega (arith, g.1)) z.finds
        (subs-next f s from b es r₀ out₀ left false true (behind_end 0 next) (pen o (place_of r)) (leads-on (leads-on g.2.leads w sub-text) z.wrote refl) sub-behind (sub-tested ∙ z.tested) (ready-behind f b false next sub-ready) sub-levels.2)

  -- the END of the component
  pub sub-ends : (j at : ℕ) → Going f s from b es r₀ out₀ left first out (Close j at) → (n : List ℕ) (p m : Pen) → Wrote p (name_text n) m → PartWritten f s from es es m (properties_text f true es ++ octets ",[") out₀ r₀
      → (o : List ℕ) (a : ℕ) → Wrote (pen out at) (octets "]]") (pen o a) → (r : NextItem) → NextFound s j a r → PartWritten f s from es (behind_end 0 es) p (print (jcal_of (component_at f n es))) o r
  unfolding ready ordered_from may_stand ends_here all reads event_tested behind_end
  sub-ends j at g n p m v w o a x r z =
      let rest = events_in (drop j s) in
      let t : each_tested f es ≡ each_tested f (next_of rest) = g.1.tested ∙ turn-passed f (ends []) rest refl ∙ next-tested f b rest g.1.fit in
      record {
        finds = finds-from s from j rest (behind_end 0 es) r g.0 g.1.behind z.finds;
        wrote = rw z.place (as-text (then (then v w.wrote) (leads-last g.1.leads x (ap (λ (y : List ℕ). y ++ octets "]") (subs-ends f first [] rest)))) (sym (component-text f n es)));
        tested = rw g.1.behind at t;
      }
