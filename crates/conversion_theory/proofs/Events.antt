-- The events of a component: they pair, nest no deeper than it does, and it grows from them again.
use Prim.Native.Nat.{ℕ, suc, ◌+◌, ◌≤◌, ◌<◌}
use mathlib.Core.Path.{◌≡◌, refl, sym, ap, ◌∙◌}
use mathlib.Core.Bool.{true}
use mathlib.Core.List.{List, [], ◌∷◌, ◌++◌, map, append_assoc, append-nil}
use native.Mathlib.Omega.{arith}
use borrow.Author.Tests.{lt-leb}
use lib.ListN.{length}
use Rattle.octets.specs.Basics.{octets, same}
use Rattle.octets.specs.Limits.{most_levels}
use Rattle.octets.proofs.Classes.{same-itself}
use Rattle.conversion_theory.specs.Tree.{Property, Component, component, Forest, leaf, grow, levels, levels_in}
use Rattle.conversion_theory.specs.Structure.{Event, begins, ends, carries, Nest, fresh, closed, inside, left, nest, nest_after}
use Rattle.conversion_theory.specs.Growth.{Level, level, innermost, around, with_property, with_component, levels_from, outermost, tree_of}

-- in the order of the lines written
unfoldable mutual
  pub events_of : Component → List (Event Property)
  events_of (component n ps cs) = begins n ∷ map carries ps ++ (events_in cs ++ ends n ∷ [])

  pub events_in : Forest → List (Event Property)
  events_in leaf = []
  events_in (grow c cs) = events_of c ++ events_in cs

-- numbers 5 and 6
pub nest-append : {A : Type 0} (s : Nest) (es fs : List (Event A)) → nest_after s (es ++ fs) ≡ nest_after (nest_after s es) fs
unfolding nest_after
nest-append s [] fs = refl
nest-append s (e ∷ es) fs = nest-append (nest s e) es fs

module _ (n : List ℕ) (ns : List (List ℕ)) where
  nest-held : (ps : List Property) → nest_after (inside n ns) (map carries ps) ≡ inside n ns
  unfolding nest_after nest
  nest-held [] = refl
  nest-held (p ∷ ps) = nest-held ps

  nest-end : nest_after {A = Property} (inside n ns) (ends n ∷ []) ≡ left ns
  unfolding nest_after nest
  nest-end = rw (same-itself n)

-- within a component: its properties, its sub-components and its END
nest-within : (n : List ℕ) (ns : List (List ℕ)) (ps : List Property) (es : List (Event Property)) → nest_after (inside n ns) es ≡ inside n ns
    → nest_after (inside n ns) (map carries ps ++ (es ++ ends n ∷ [])) ≡ left ns
nest-within n ns ps es h =
    nest-append (inside n ns) (map carries ps) (es ++ ends n ∷ [])
    ∙ rw (nest-held n ns ps, nest-append (inside n ns) es (ends n ∷ []), h) (nest-end n ns)

nest-begin : (m n : List ℕ) (ns : List (List ℕ)) → suc (length ns) < most_levels → nest {A = Property} (inside n ns) (begins m) ≡ inside m (n ∷ ns)
unfolding nest
nest-begin m n ns h = rw (lt-leb most_levels (suc (length ns)) h)

nest-top : (m : List ℕ) → same m (octets "vcalendar") ≡ true → nest {A = Property} fresh (begins m) ≡ inside m []
unfolding nest
nest-top m t = rw t

mutual
  unfolding events_of levels nest_after left

  nest-component : (c : Component) (n : List ℕ) (ns : List (List ℕ)) → suc (length ns) + levels c ≤ most_levels → nest_after (inside n ns) (events_of c) ≡ inside n ns
  nest-component (component m ps cs) n ns h =
      ap (λ (s : Nest). nest_after s (map carries ps ++ (events_in cs ++ ends m ∷ []))) (nest-begin m n ns (omega arith))
      ∙ nest-within m (n ∷ ns) ps (events_in cs) (nest-forest cs m (n ∷ ns) (omega arith))

  nest-forest : (cs : Forest) (n : List ℕ) (ns : List (List ℕ)) → suc (length ns) + levels_in cs ≤ most_levels → nest_after (inside n ns) (events_in cs) ≡ inside n ns
  nest-forest leaf n ns h = refl
  nest-forest (grow c cs) n ns h =
      nest-append (inside n ns) (events_of c) (events_in cs)
      ∙ rw (nest-component c n ns (omega arith)) (nest-forest cs n ns (omega arith))

-- the outermost component is a VCALENDAR
abbrev pub IsTop : Component → Type 0
IsTop (component n ps cs) = same n (octets "vcalendar") ≡ true

-- THE LAW of 5 and 6
pub events-pair : (c : Component) → IsTop c → levels c ≤ most_levels → nest_after fresh (events_of c) ≡ closed
unfolding events_of levels nest_after left
events-pair (component n ps cs) t h =
    ap (λ (s : Nest). nest_after s (map carries ps ++ (events_in cs ++ ends n ∷ []))) (nest-top n t)
    ∙ nest-within n [] ps (events_in cs) (nest-forest cs n [] (omega arith))

-- sub-components in front of those that the innermost level has
unfoldable join_forest : Forest → Forest → Forest
join_forest leaf ds = ds
join_forest (grow c cs) ds = grow c (join_forest cs ds)

join-leaf : (cs : Forest) → join_forest cs leaf ≡ cs
unfolding join_forest
join-leaf leaf = refl
join-leaf (grow c cs) = ap (λ (r : Forest). grow c r) (join-leaf cs)

unfoldable with_forest : Forest → List Level → List Level
with_forest cs ls = level (innermost ls).properties (join_forest cs (innermost ls).subs) ∷ around ls

levels-held : (ps : List Property) (es : List (Event Property)) (cs : Forest) (ls : List Level) → levels_from es ≡ level [] cs ∷ ls → levels_from (map carries ps ++ es) ≡ level ps cs ∷ ls
unfolding levels_from with_property innermost around
levels-held [] es cs ls e = e
levels-held (p ∷ ps) es cs ls e = rw (levels-held ps es cs ls e)

levels-end : (n : List ℕ) (es : List (Event Property)) (cs : Forest) → with_forest cs (levels_from (ends n ∷ es)) ≡ level [] cs ∷ levels_from es
unfolding levels_from with_forest innermost around
levels-end n es cs = rw (join-leaf cs)

mutual
  unfolding events_of levels_from with_component with_forest join_forest innermost around

  levels-component : (c : Component) (es : List (Event Property)) → levels_from (events_of c ++ es) ≡ with_forest (grow c leaf) (levels_from es)
  levels-component (component n ps cs) es =
      rw (
        append_assoc (map carries ps) (events_in cs ++ ends n ∷ []) es,
        append_assoc (events_in cs) (ends n ∷ []) es,
        levels-held ps (events_in cs ++ ends n ∷ es) cs (levels_from es) (levels-forest cs (ends n ∷ es) (level [] leaf) (levels_from es) refl ∙ levels-end n es cs),
      )

  levels-forest : (cs : Forest) (es : List (Event Property)) (l : Level) (ls : List Level) → levels_from es ≡ l ∷ ls → levels_from (events_in cs ++ es) ≡ with_forest cs (l ∷ ls)
  levels-forest leaf es l ls e = e
  levels-forest (grow c cs) es l ls e =
      rw (append_assoc (events_of c) (events_in cs) es, levels-component c (events_in cs ++ es), levels-forest cs es l ls e)

-- THE LAW of growth
pub events-grow : (c : Component) → tree_of (events_of c) ≡ c
unfolding tree_of
events-grow c =
    ap (λ (es : List (Event Property)). outermost (innermost (levels_from es)).subs) (sym (append-nil (events_of c)))
    ∙ rw (levels-component c []) (unfold levels_from with_forest innermost join_forest outermost in refl)
