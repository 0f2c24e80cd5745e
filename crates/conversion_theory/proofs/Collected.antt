-- What is listed for each two related properties: over two components of one shape, and over the events that made them, the same, each as often.
use Prim.Native.Nat.{ℕ, suc, ◌+◌, ◌≤◌}
use mathlib.Core.Path.{◌≡◌, refl}
use mathlib.Core.Bool.{Bool, true}
use mathlib.Core.List.{List, [], ◌∷◌, ◌++◌}
use native.Mathlib.Omega.{arith}
use lib.Dec.{leb}
use lib.ListN.{length}
use Rattle.octets.specs.Basics.{octets, same}
use Rattle.octets.specs.Classes.{is_lower_name}
use Rattle.octets.specs.Limits.{most_levels}
use Rattle.octets.proofs.Cases.{cases}
use Rattle.conversion_theory.specs.Tree.{Property, Component, Forest}
use Rattle.conversion_theory.specs.Structure.{Event, begins, ends, carries, stray, fresh, closed, inside, left, nest, nest_after}
use Rattle.conversion_theory.specs.Growth.{Level, around, with_property, with_component, levels_from, tree_of}
use Rattle.conversion_theory.specs.Claim.{those, Rearranged}
use Rattle.conversion_theory.proofs.Shapes.{Pairwise, no-pair, pair, both-begin, both_end, both_hold, Steps, Alike, alike, Alikes, no_more, one_more, AlikeLevel, first_alike, around-alike, levels-alike, trees-alike}
use Rattle.conversion_theory.proofs.Nesting.{never-closed}

-- how many pass the test
abbrev count : {A : Type 0} → (A → Bool) → List A → ℕ
count t xs = length (those t xs)

count-append : {A : Type 0} (t : A → Bool) (xs ys : List A) → count t (xs ++ ys) ≡ count t xs + count t ys
unfolding those
count-append t [] ys = omega arith
count-append t (x ∷ xs) ys = cases (t x) (λ e. rw e (omega (arith, count-append t xs ys))) (λ e. rw e (count-append t xs ys))

-- all that f lists, in the order of the properties, the components, the events and the levels that are open
module _ {L : Type 0} {R : Property → Property → Type 0} (f : (q p : Property) → R q p → List L) where
  unfoldable pub pairs-list : {qs ps : List Property} → Pairwise R qs ps → List L
  pairs-list no-pair = []
  pairs-list (pair {a = q} {b = p} r l) = f q p r ++ pairs-list l

  unfoldable mutual
    pub alike-list : {c d : Component} → Alike R c d → List L
    alike-list (alike n ps cs) = pairs-list ps ++ alikes-list cs

    pub alikes-list : {cs ds : Forest} → Alikes R cs ds → List L
    alikes-list no_more = []
    alikes-list (one_more c cs) = alike-list c ++ alikes-list cs

  unfoldable pub steps-list : {es fs : List (Event Property)} → Steps R es fs → List L
  steps-list no-pair = []
  steps-list (pair (both-begin n) s) = steps-list s
  steps-list (pair both_end s) = steps-list s
  steps-list (pair (both_hold {a = q} {b = p} r) s) = f q p r ++ steps-list s

  abbrev level-list : {k l : Level} → AlikeLevel R k l → List L
  level-list h = pairs-list h.properties ++ alikes-list h.subs

  unfoldable levels-list : {ks ls : List Level} → Pairwise (AlikeLevel R) ks ls → List L
  levels-list no-pair = []
  levels-list (pair h r) = level-list h ++ levels-list r

  -- the levels of events have what the events have
  module _ (t : L → Bool) where
    parted : {ks ls : List Level} (h : Pairwise (AlikeLevel R) ks ls) → count t (levels-list h) ≡ count t (level-list (first_alike R h)) + count t (levels-list (around-alike R h))
    unfolding levels-list first_alike around-alike pairs-list alikes-list those
    parted no-pair = refl
    parted (pair h r) = count-append t (level-list h) (levels-list r)

    levels-count : {es fs : List (Event Property)} (s : Steps R es fs) → count t (levels-list (levels-alike R s)) ≡ count t (steps-list s)
    unfolding levels-alike levels-list steps-list pairs-list alike-list those
    levels-count no-pair = refl
    levels-count (pair (both-begin n) s) =
        let here = levels-alike R s in
        let inner = first_alike R here in
        let outer = first_alike R (around-alike R here) in
        let rest = levels-list (around-alike R (around-alike R here)) in
        let a = pairs-list inner.properties in
        let b = alikes-list inner.subs in
        let c = pairs-list outer.properties in
        let d = alikes-list outer.subs in
        omega (
          arith,
          levels-count s,
          parted here,
          parted (around-alike R here),
          count-append t a b,
          count-append t c d,
          count-append t (c ++ ((a ++ b) ++ d)) rest,
          count-append t c ((a ++ b) ++ d),
          count-append t (a ++ b) d,
        )
    levels-count (pair both_end s) = levels-count s
    levels-count (pair (both_hold {a = q} {b = p} r) s) =
        let here = levels-alike R s in
        let rest = levels-list (around-alike R here) in
        let a = pairs-list (first_alike R here).properties in
        let b = alikes-list (first_alike R here).subs in
        omega (
          arith,
          levels-count s,
          parted here,
          count-append t a b,
          count-append t (f q p r) (steps-list s),
          count-append t ((f q p r ++ a) ++ b) rest,
          count-append t (f q p r ++ a) b,
          count-append t (f q p r) a,
        )

    -- no level stands around the only one
    bare : {ks ls : List Level} (h : Pairwise (AlikeLevel R) ks ls) → length ks ≤ 1 → count t (levels-list (around-alike R h)) ≡ 0
    unfolding levels-list around-alike those
    bare no-pair l = refl
    bare (pair h no-pair) l = refl
    bare (pair h (pair g r)) l = absurd (omega arith)

    trees-count : {es fs : List (Event Property)} (n : List ℕ) (h : is_lower_name n ≡ true) (s : Steps R es fs) → length (levels_from es) ≤ 1
        → count t (alike-list (trees-alike R n h s)) ≡ count t (steps-list s)
    unfolding trees-alike alike-list
    trees-count n h s l = omega (arith, levels-count s, parted (levels-alike R s), bare (levels-alike R s) l)

-- events that close have no more levels than components are open
around-less : (ls : List Level) (k : ℕ) → length ls ≤ suc k → length (around ls) ≤ k
unfolding around
around-less [] k h = omega arith
around-less (l ∷ ls) k h = omega arith

closed-empty : (es : List (Event Property)) → nest_after closed es ≡ closed → length (levels_from es) ≡ 0
unfolding nest_after nest levels_from
closed-empty [] h = refl
closed-empty (begins m ∷ es) h = never-closed 5 es h
closed-empty (ends m ∷ es) h = never-closed 5 es h
closed-empty (carries p ∷ es) h = never-closed 5 es h
closed-empty (stray ∷ es) h = never-closed 5 es h

few : (es : List (Event Property)) (n : List ℕ) (ns : List (List ℕ)) → nest_after (inside n ns) es ≡ closed → length (levels_from es) ≤ suc (length ns)
unfolding nest_after nest levels_from left with_component with_property
few [] n ns h = let z : ◌≡◌ {A = ℕ} 0 1 = cc in absurd (omega arith)
few (begins m ∷ es) n ns h = cases (leb most_levels (suc (length ns)))
    (λ e. never-closed 6 es (rw e at h))
    (λ e. omega (arith, around-less (around (levels_from es)) (length ns) (around-less (levels_from es) (suc (length ns)) (few es m (n ∷ ns) (rw e at h)))))
few (ends m ∷ es) n [] h = cases (same m n)
    (λ e. omega (arith, closed-empty es (rw e at h)))
    (λ e. never-closed 5 es (rw e at h))
few (ends m ∷ es) n (k ∷ ns) h = cases (same m n)
    (λ e. omega (arith, few es k ns (rw e at h)))
    (λ e. never-closed 5 es (rw e at h))
few (carries p ∷ es) n ns h = omega (arith, around-less (levels_from es) (length ns) (few es n ns h))
few (stray ∷ es) n ns h = never-closed 5 es h

-- THE LAW: closed events in step make components of one shape, and nothing that is listed for their properties is lost or stands twice
module _ {L : Type 0} {R : Property → Property → Type 0} (f : (q p : Property) → R q p → List L) where
  pub record Collected (c d : Component) (ls : List L) : Type 0 where
    pub shape : Alike R c d
    pub as-often : Rearranged (alike-list f shape) ls

  pub events-collected : {es fs : List (Event Property)} (s : Steps R es fs) → nest_after fresh es ≡ closed → Collected (tree_of es) (tree_of fs) (steps-list f s)
  unfolding nest_after nest steps-list
  events-collected no-pair h = let z : ◌≡◌ {A = ℕ} 0 1 = cc in absurd (omega arith)
  events-collected (pair {xs = es} (both-begin {n} l) s) h = record {
    shape = trees-alike R n l s;
    as-often = λ t. trees-count f t n l s (cases (same n (octets "vcalendar")) (λ e. few es n [] (rw e at h)) (λ e. never-closed 5 es (rw e at h)));
  }
  events-collected (pair {xs = es} (both_end {n}) s) h = never-closed 5 es h
  events-collected (pair {xs = es} (both_hold r) s) h = never-closed 5 es h
