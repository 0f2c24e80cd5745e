-- The component that the lines from a place on make, line by line.
use Prim.Native.Nat.{ℕ, zero, suc, max, ◌-◌, ◌≤◌}
use mathlib.Core.Path.{◌≡◌, refl, sym, ap, ◌∙◌}
use mathlib.Core.Bool.{Bool, true, false}
use mathlib.Core.List.{List, [], ◌∷◌, ◌++◌, map, append_assoc}
use native.Mathlib.Nat.{le-max_left, le-max_right}
use native.Mathlib.Omega.{arith}
use Rattle.octets.specs.Basics.{octets, all}
use Rattle.octets.specs.Answers.{Answer, refused, accepted}
use Rattle.octets.proofs.Cases.{never, both}
use Rattle.octets.proofs.Answers.{not-accepted, accepted-same, then-accepted}
use Rattle.json_text.specs.Tree.{Json, Items, no_items, item, items_of}
use Rattle.json_text.specs.Print.{print, first_item, more_items}
use Rattle.content.specs.Line.{Line}
use Rattle.conversion_theory.specs.Tree.{Property, leaf, grow, levels, levels_in}
use Rattle.conversion_theory.specs.Structure.{Event, begins, ends, carries, stray}
use Rattle.conversion_theory.specs.Growth.{behind_event, each_property, Level, level, innermost, around, with_property, with_component, levels_from, outermost, tree_of}
use Rattle.conversion_theory.specs.Jcal.{property_json, jcal_of, jcals_of}
use Rattle.jcal.specs.Components.{property_or, is_accepted, read_event, reads, behind_end, outward, level_at, component_at, leading_comma, items_rest, properties_text, subs_text, name_text}

outward-none : (k : ℕ) → outward k [] ≡ []
unfolding outward around
outward-none zero = refl
outward-none (suc k) = outward-none k

module _ (f : Line → Answer Property) where
  pub level-none : (k : ℕ) → level_at f k [] ≡ level [] leaf
  unfolding level_at levels_from innermost
  level-none k = rw (outward-none k)

  pub level-stray : (k : ℕ) (es : List (Event Line)) → level_at f k (stray ∷ es) ≡ level_at f k es
  unfolding level_at read_event levels_from
  level-stray k es = refl

  pub level-ends : (n : List ℕ) (es : List (Event Line)) → level_at f 0 (ends n ∷ es) ≡ level [] leaf
  unfolding level_at read_event levels_from outward innermost
  level-ends n es = refl

  pub level-left : (k : ℕ) (n : List ℕ) (es : List (Event Line)) → level_at f (suc k) (ends n ∷ es) ≡ level_at f k es
  unfolding level_at read_event levels_from outward around
  level-left k n es = refl

  pub level_holds : (l : Line) (es : List (Event Line)) → level_at f 0 (carries l ∷ es) ≡ level (property_or (f l) ∷ (level_at f 0 es).properties) (level_at f 0 es).subs
  unfolding level_at read_event levels_from with_property outward innermost
  level_holds l es = refl

  pub level-passed : (k : ℕ) (l : Line) (es : List (Event Line)) → level_at f (suc k) (carries l ∷ es) ≡ level_at f (suc k) es
  unfolding level_at read_event levels_from with_property outward around
  level-passed k l es = refl

  pub level-begins : (n : List ℕ) (es : List (Event Line)) → level_at f 0 (begins n ∷ es) ≡ level (level_at f 1 es).properties (grow (component_at f n es) (level_at f 1 es).subs)
  unfolding level_at component_at read_event levels_from with_component outward innermost
  level-begins n es = refl

  pub level-entered : (k : ℕ) (n : List ℕ) (es : List (Event Line)) → level_at f (suc k) (begins n ∷ es) ≡ level_at f (suc (suc k)) es
  unfolding level_at read_event levels_from with_component outward around
  level-entered k n es = refl

  -- the component around goes on behind the END
  pub level-behind : (k : ℕ) (es : List (Event Line)) → level_at f (suc k) es ≡ level_at f 0 (behind_end k es)
  unfolding behind_end
  level-behind k [] = level-none (suc k) ∙ sym (level-none 0)
  level-behind k (begins n ∷ es) = level-entered k n es ∙ level-behind (suc k) es
  level-behind zero (ends n ∷ es) = level-left 0 n es
  level-behind (suc k) (ends n ∷ es) = level-left (suc k) n es ∙ level-behind k es
  level-behind k (carries l ∷ es) = level-passed k l es ∙ level-behind k es
  level-behind k (stray ∷ es) = level-stray (suc k) es ∙ level-behind k es

  -- the levels of a sub-component, and of what stands behind it
  pub few-opens : (left : ℕ) (n : List ℕ) (es : List (Event Line)) → suc (levels_in (level_at f 0 (begins n ∷ es)).subs) ≤ left
      → (suc (levels_in (level_at f 0 es).subs) ≤ left - 1) × (1 ≤ left) × (suc (levels_in (level_at f 0 (behind_end 0 es)).subs) ≤ left)
  unfolding levels_in levels component_at
  few-opens left n es h =
      let a = suc (levels_in (level_at f 0 es).subs) in
      let b = levels_in (level_at f 1 es).subs in
      let m : suc (max a b) ≤ left = rw (level-begins n es) at h in
      (omega (arith, le-max_left a b), omega arith, rw (← level-behind 0 es) (omega (arith, le-max_right a b)))

  -- behind the END of a component within
  pub behind-within : (k : ℕ) (es : List (Event Line)) → behind_end (suc k) es ≡ behind_end 0 (behind_end k es)
  unfolding behind_end
  behind-within k [] = refl
  behind-within k (begins n ∷ es) = behind-within (suc k) es
  behind-within zero (ends n ∷ es) = refl
  behind-within (suc k) (ends n ∷ es) = behind-within k es
  behind-within k (carries l ∷ es) = behind-within k es
  behind-within k (stray ∷ es) = behind-within k es

  -- properties that are accepted stay so
  pub reads-behind : (k : ℕ) (es : List (Event Line)) → all (reads f) es ≡ true → all (reads f) (behind_end k es) ≡ true
  unfolding behind_end all reads
  reads-behind k [] h = refl
  reads-behind k (begins n ∷ es) h = reads-behind (suc k) es h
  reads-behind zero (ends n ∷ es) h = h
  reads-behind (suc k) (ends n ∷ es) h = reads-behind k es h
  reads-behind k (carries l ∷ es) h = reads-behind k es (both (is_accepted (f l)) (all (reads f) es) h).1
  reads-behind k (stray ∷ es) h = reads-behind k es h

-- items one by one
pub listed-none : (first : Bool) → items_rest first no_items ≡ octets "]"
unfolding items_rest first_item more_items
listed-none true = refl
listed-none false = refl

listed-item : (first : Bool) (j : Json) (js : Items) → items_rest first (item j js) ≡ leading_comma first ++ (print j ++ items_rest false js)
unfolding items_rest leading_comma first_item more_items
listed-item true j js = refl
listed-item false j js = refl

-- the text of the properties, line by line
module _ (f : Line → Answer Property) (first : Bool) where
  pub properties-none : properties_text f first [] ≡ octets "]"
  unfolding properties_text items_of
  properties-none = rw (level-none f 0) (listed-none first)

  pub properties-stray : (es : List (Event Line)) → properties_text f first (stray ∷ es) ≡ properties_text f first es
  unfolding properties_text
  properties-stray es = rw (level-stray f 0 es)

  pub properties-ends : (n : List ℕ) (es : List (Event Line)) → properties_text f first (ends n ∷ es) ≡ octets "]"
  unfolding properties_text items_of
  properties-ends n es = rw (level-ends f n es) (listed-none first)

  pub properties-begins : (n : List ℕ) (es : List (Event Line)) → properties_text f first (begins n ∷ es) ≡ properties_text f first (behind_end 0 es)
  unfolding properties_text
  properties-begins n es = rw (level-begins f n es, level-behind f 0 es)

  pub properties-holds : (l : Line) (es : List (Event Line))
      → properties_text f first (carries l ∷ es) ≡ leading_comma first ++ (print (property_json (property_or (f l))) ++ properties_text f false es)
  unfolding properties_text items_of
  properties-holds l es = rw (level_holds f l es) (listed-item first _ _)

  -- the text of the sub-components
  pub subs-ends : (n : List ℕ) (es : List (Event Line)) → subs_text f first (ends n ∷ es) ≡ octets "]"
  unfolding subs_text jcals_of
  subs-ends n es = rw (level-ends f n es) (listed-none first)

  pub subs-begins : (n : List ℕ) (es : List (Event Line))
      → subs_text f first (begins n ∷ es) ≡ leading_comma first ++ (print (jcal_of (component_at f n es)) ++ subs_text f false (behind_end 0 es))
  unfolding subs_text jcals_of
  subs-begins n es = rw (level-begins f n es, level-behind f 0 es) (listed-item first _ _)

-- the text of a component: its name, its properties, its sub-components
pub component-text : (f : Line → Answer Property) (n : List ℕ) (es : List (Event Line))
    → print (jcal_of (component_at f n es)) ≡ (name_text n ++ (properties_text f true es ++ octets ",[")) ++ (subs_text f true es ++ octets "]")
unfolding component_at jcal_of print first_item more_items name_text properties_text subs_text items_rest
component-text f n es = simp append_assoc

-- an answer that is accepted
pub not-refused {ℓ} : {P : Type ℓ} {A : Type 0} (a : Answer A) (n : ℕ) → is_accepted a ≡ true → a ≡ refused n → P
unfolding is_accepted
not-refused a n h e = never h (rw e)

-- an event in front of those that are accepted
behind-accepted {ℓ} : {P : Type ℓ} {B : Type 0} (e : Event B) (a : Answer (List (Event B))) (ps : List (Event B)) → behind_event e a ≡ accepted ps
    → ((qs : List (Event B)) → a ≡ accepted qs → e ∷ qs ≡ ps → P) → P
unfolding behind_event
behind-accepted e (refused n) ps h k = not-accepted h
behind-accepted e (accepted qs) ps h k = k qs refl (accepted-same h)

-- properties that f accepts: none is in fault, and they grow to the component that the code walks
pub record Grown (f : Line → Answer Property) (es : List (Event Line)) (ps : List (Event Property)) : Type 0 where
  pub levels : levels_from ps ≡ levels_from (map (read_event f) es)
  pub accepts : all (reads f) es ≡ true

module _ (f : Line → Answer Property) where
  pub grown : (es : List (Event Line)) (ps : List (Event Property)) → each_property f es ≡ accepted ps → Grown f es ps
  unfolding each_property read_event levels_from all reads is_accepted property_or
  grown [] ps h = record { levels = ap levels_from (sym (accepted-same h)); accepts = refl }
  grown (begins n ∷ es) ps h = behind-accepted (begins n) (each_property f es) ps h (λ qs q e.
      let g = grown es qs q in
      record { levels = rw (← e) (ap (with_component n) g.levels); accepts = g.accepts })
  grown (ends n ∷ es) ps h = behind-accepted (ends n) (each_property f es) ps h (λ qs q e.
      let g = grown es qs q in
      record { levels = rw (← e) (ap (λ (ls : List Level). level [] leaf ∷ ls) g.levels); accepts = g.accepts })
  grown (carries l ∷ es) ps h = then-accepted (f l) (λ b. behind_event (carries b) (each_property f es)) ps h (λ b r m. behind-accepted (carries b) (each_property f es) ps m (λ qs q e.
      let g = grown es qs q in
      record { levels = rw (← e, r) (ap (with_property b) g.levels); accepts = rw r g.accepts }))
  grown (stray ∷ es) ps h = let g = grown es ps h in record { levels = g.levels; accepts = g.accepts }

  -- the tree begins with the first line
  pub tree_is : (n : List ℕ) (es : List (Event Line)) (ps : List (Event Property)) → Grown f (begins n ∷ es) ps → tree_of ps ≡ component_at f n es
  unfolding tree_of
  tree_is n es ps g =
      let k : innermost (levels_from ps) ≡ level_at f 0 (begins n ∷ es) = unfold level_at outward in (ap innermost g.levels) in
      ap (λ (l : Level). outermost l.subs) (k ∙ level-begins f n es) ∙ (unfold outermost in refl)
