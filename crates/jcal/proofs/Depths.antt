-- Lines that pass number 6 make a component of at most as many levels.
use Prim.Native.Nat.{ℕ, zero, suc, max, ◌+◌, ◌≤◌, ◌<◌}
use mathlib.Core.Path.{◌≡◌, refl, sym, ◌∙◌}
use mathlib.Core.Bool.{Bool, true, false}
use mathlib.Core.List.{List, [], ◌∷◌}
use native.Mathlib.Nat.{max-le, add-max-add_right}
use native.Mathlib.Omega.{arith}
use borrow.Author.Tests.{leb-false}
use lib.Dec.{leb}
use lib.ListN.{length}
use Rattle.octets.specs.Basics.{octets, pick, same}
use Rattle.octets.specs.Limits.{most_levels}
use Rattle.octets.specs.Answers.{Answer}
use Rattle.octets.proofs.Limits.{most-levels}
use Rattle.content.specs.Line.{Line}
use Rattle.conversion_theory.specs.Tree.{Property, levels, levels_in}
use Rattle.conversion_theory.specs.Structure.{Event, begins, ends, carries, stray, Nest, fresh, closed, inside, fault, left, nest, nest_after}
use Rattle.jcal.specs.Components.{behind_end, level_at, component_at}
use Rattle.jcal.proofs.OpenComponents.{nest-closed, fault-stays}
use Rattle.jcal.proofs.Levels.{level-ends, level-left, level_holds, level-passed, level-begins, level-entered}

pub not-fresh {ℓ} : {P : Type ℓ} → ◌≡◌ {A = Nest} fresh closed → P
not-fresh e = let z : ◌≡◌ {A = ℕ} 0 1 = cc in absurd (omega arith)

-- a fault on the way is none that closes
faulty {ℓ} : {P : Type ℓ} (k : ℕ) (es : List (Event Line)) → nest_after (fault k) es ≡ closed → P
faulty k es h =
    let e : ◌≡◌ {A = Nest} (fault k) closed = sym (fault-stays k es) ∙ h in
    let z : ◌≡◌ {A = ℕ} 0 1 = cc in
    absurd (omega arith)

-- a choice of which one part is a fault
picked {ℓ} : {P : Type ℓ} (b : Bool) (k : ℕ) (n : Nest) (es : List (Event Line)) → nest_after (pick b (fault k) n) es ≡ closed → (b ≡ false → nest_after n es ≡ closed → P) → P
picked true k n es h f = faulty k es h
picked false k n es h f = f refl h

picked-not {ℓ} : {P : Type ℓ} (b : Bool) (k : ℕ) (n : Nest) (es : List (Event Line)) → nest_after (pick b n (fault k)) es ≡ closed → (b ≡ true → nest_after n es ≡ closed → P) → P
picked-not true k n es h f = f refl h
picked-not false k n es h f = faulty k es h

max-within : (a b m k : ℕ) → a + m ≤ k → b + m ≤ k → max a b + m ≤ k
max-within a b m k h g = rw (← add-max-add_right a b m) (max-le h g)

module _ (f : Line → Answer Property) where
  abbrev under : ℕ → List (Event Line) → ℕ
  under j es = levels_in (level_at f j es).subs

  begun-within : (x : List ℕ) (es : List (Event Line)) (m : ℕ) → under 0 es + suc m ≤ most_levels → under 1 es + m ≤ most_levels → under 0 (begins x ∷ es) + m ≤ most_levels
  unfolding levels_in levels component_at
  begun-within x es m a b = rw (level-begins f x es) (max-within (suc (under 0 es)) (under 1 es) m most_levels (omega (arith, a)) b)

  ended-within : (x : List ℕ) (es : List (Event Line)) (m : ℕ) → m ≤ most_levels → under 0 (ends x ∷ es) + m ≤ most_levels
  unfolding levels_in
  ended-within x es m h = rw (level-ends f x es) (omega arith)

  -- the component that lies j outward of the innermost is the m-th from the outside: what stands under it keeps within the levels
  pub within-levels : (es : List (Event Line)) (n : List ℕ) (ns : List (List ℕ)) → nest_after (inside n ns) es ≡ closed → suc (length ns) ≤ most_levels
      → (j m : ℕ) → 0 < m → j + m ≡ suc (length ns) → under j es + m ≤ most_levels
  unfolding nest_after nest left
  within-levels [] n ns h d j m z e = let x : ◌≡◌ {A = ℕ} 0 1 = cc in absurd (omega arith)
  within-levels (begins x ∷ es) n ns h d zero m z e = picked (leb most_levels (suc (length ns))) 6 (inside x (n ∷ ns)) es h (λ t g.
      let l : suc (suc (length ns)) ≤ most_levels = omega (arith, leb-false most_levels (suc (length ns)) t) in
      begun-within x es m (within-levels es x (n ∷ ns) g l 0 (suc m) (omega arith) (omega arith)) (within-levels es x (n ∷ ns) g l 1 m z (omega arith)))
  within-levels (begins x ∷ es) n ns h d (suc j) m z e = picked (leb most_levels (suc (length ns))) 6 (inside x (n ∷ ns)) es h (λ t g.
      let l : suc (suc (length ns)) ≤ most_levels = omega (arith, leb-false most_levels (suc (length ns)) t) in
      rw (level-entered f j x es) (within-levels es x (n ∷ ns) g l (suc (suc j)) m z (omega arith)))
  within-levels (ends x ∷ es) n ns h d zero m z e = ended-within x es m (omega arith)
  within-levels (ends x ∷ es) n [] h d (suc j) m z e = absurd (omega arith)
  within-levels (ends x ∷ es) n (y ∷ ns) h d (suc j) m z e = picked-not (same x n) 5 (left (y ∷ ns)) es h (λ t g.
      rw (level-left f j x es) (within-levels es y ns g (omega arith) j m z (omega arith)))
  within-levels (carries l ∷ es) n ns h d zero m z e = rw (level_holds f l es) (within-levels es n ns h d zero m z e)
  within-levels (carries l ∷ es) n ns h d (suc j) m z e = rw (level-passed f j l es) (within-levels es n ns h d (suc j) m z e)
  within-levels (stray ∷ es) n ns h d j m z e = faulty 5 es h

-- nothing stands behind the END of the outermost component
closed_none : (es : List (Event Line)) → nest_after closed es ≡ closed → es ≡ []
unfolding nest_after
closed_none [] h = refl
closed_none (e ∷ es) h = faulty 5 es (rw (nest-closed e) at h)

closed-behind : (es : List (Event Line)) (n : List ℕ) (ns : List (List ℕ)) → nest_after (inside n ns) es ≡ closed → behind_end (length ns) es ≡ []
unfolding nest_after nest left behind_end
closed-behind [] n ns h = refl
closed-behind (begins x ∷ es) n ns h = picked (leb most_levels (suc (length ns))) 6 (inside x (n ∷ ns)) es h (λ t g. closed-behind es x (n ∷ ns) g)
closed-behind (ends x ∷ es) n [] h = picked-not (same x n) 5 (left []) es h (λ t g. closed_none es g)
closed-behind (ends x ∷ es) n (y ∷ ns) h = picked-not (same x n) 5 (left (y ∷ ns)) es h (λ t g. closed-behind es y ns g)
closed-behind (carries l ∷ es) n ns h = closed-behind es n ns h
closed-behind (stray ∷ es) n ns h = faulty 5 es h

-- lines that pass 5 and 6 begin with a component, which has at most the levels allowed, and are its lines alone
pub record Passes (f : Line → Answer Property) (es : List (Event Line)) : Type 0 where
  pub name : List ℕ
  pub body : List (Event Line)
  pub begun : es ≡ begins name ∷ body
  pub few : levels (component_at f name body) ≤ most_levels
  pub alone : behind_end 0 body ≡ []

pub passes : (f : Line → Answer Property) (es : List (Event Line)) → nest_after fresh es ≡ closed → Passes f es
unfolding nest_after nest levels component_at
passes f [] h = not-fresh h
passes f (begins n ∷ es) h = picked-not (same n (octets "vcalendar")) 5 (inside n []) es h (λ t g.
    let a = within-levels f es n [] g (rw most-levels (omega arith)) 0 1 (omega arith) refl in
    record { name = n; body = es; begun = refl; few = omega (arith, a); alone = closed-behind es n [] g })
passes f (ends n ∷ es) h = faulty 5 es h
passes f (carries l ∷ es) h = faulty 5 es h
passes f (stray ∷ es) h = faulty 5 es h
