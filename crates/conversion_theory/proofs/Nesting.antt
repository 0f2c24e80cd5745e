-- What numbers 5 and 6 leave: one VCALENDAR, no deeper than the limit; and what it says that the properties of its lines are accepted.
use Prim.Native.Nat.{ℕ, zero, suc, ◌+◌, ◌≤◌}
use mathlib.Core.Path.{◌≡◌, refl, sym, subst, ◌∙◌}
use mathlib.Core.Bool.{true}
use mathlib.Core.List.{List, [], ◌∷◌}
use native.Mathlib.Omega.{arith}
use borrow.Author.Tests.{leb-false}
use lib.Dec.{leb}
use lib.ListN.{length}
use Rattle.octets.specs.Basics.{octets, same, All}
use Rattle.octets.specs.Classes.{is_lower_name}
use Rattle.octets.specs.Limits.{most_levels}
use Rattle.octets.specs.Answers.{Answer, refused, accepted}
use Rattle.octets.proofs.Cases.{cases}
use Rattle.octets.proofs.Limits.{most-levels}
use Rattle.octets.proofs.Answers.{not-accepted, accepted-same, then-accepted}
use Rattle.conversion_theory.specs.Tree.{Property, Component, leaf, levels, levels_in}
use Rattle.conversion_theory.specs.Structure.{Event, begins, ends, carries, stray, Nest, fresh, closed, inside, fault, left, nest, nest_after, verdict, structured}
use Rattle.conversion_theory.specs.Growth.{Level, level, innermost, around, with_property, with_component, levels_from, outermost, tree_of, each_property, behind_event}
use Rattle.conversion_theory.proofs.Shapes.{no-pair, pair, EventStep, both-begin, both_end, both_hold, Steps}
use Rattle.conversion_theory.proofs.Events.{IsTop}

-- events that are accepted are closed, and stay as they are
pub record Paired {A : Type 0} (es fs : List (Event A)) : Type 0 where
  pub stay : es ≡ fs
  pub close : nest_after fresh es ≡ closed

verdict-closed : {A : Type 0} (s : Nest) (a b : A) → verdict s a ≡ accepted b → (a ≡ b) × (s ≡ closed)
unfolding verdict
verdict-closed fresh a b e = not-accepted e
verdict-closed closed a b e = (accepted-same e, refl)
verdict-closed (inside n ns) a b e = not-accepted e
verdict-closed (fault k) a b e = not-accepted e

pub structured-is : {A : Type 0} (es fs : List (Event A)) → structured es ≡ accepted fs → Paired es fs
unfolding structured
structured-is es fs e = let v = verdict-closed (nest_after fresh es) es fs e in record { stay = v.0; close = v.1 }

pub is-structured : {A : Type 0} (es : List (Event A)) → nest_after fresh es ≡ closed → structured es ≡ accepted es
unfolding structured verdict
is-structured es h = rw h

-- a fault stays
fault-stays : {A : Type 0} (k : ℕ) (es : List (Event A)) → nest_after (fault k) es ≡ fault k
unfolding nest_after nest
fault-stays k [] = refl
fault-stays k (begins n ∷ es) = fault-stays k es
fault-stays k (ends n ∷ es) = fault-stays k es
fault-stays k (carries a ∷ es) = fault-stays k es
fault-stays k (stray ∷ es) = fault-stays k es

fault-closed {ℓ} : {P : Type ℓ} {k : ℕ} → fault k ≡ closed → P
fault-closed e = let z : ◌≡◌ {A = ℕ} 0 1 = cc in absurd (omega arith)

pub never-closed {ℓ} : {P : Type ℓ} {A : Type 0} (k : ℕ) (es : List (Event A)) → nest_after (fault k) es ≡ closed → P
never-closed k es h = fault-closed (sym (fault-stays k es) ∙ h)

-- a BEGIN or END line that is neither
pub stray-closed {ℓ} : {P : Type ℓ} {A : Type 0} (s : Nest) (es : List (Event A)) → nest_after (nest {A = A} s stray) es ≡ closed → P
unfolding nest
stray-closed fresh es h = never-closed 5 es h
stray-closed closed es h = never-closed 5 es h
stray-closed (inside n ns) es h = never-closed 5 es h
stray-closed (fault k) es h = never-closed k es h

-- with d components open, what each of them has from here on leaves the whole within the limit
abbrev Fits : ℕ → List Level → Type 0
Fits zero ls = Unit {0}
Fits (suc d) ls = (levels_in (innermost ls).subs + suc d ≤ most_levels) × Fits d (around ls)

fits-begin : (d : ℕ) (m : List ℕ) (ls : List Level) → Fits (suc (suc d)) ls → Fits (suc d) (with_component m ls)
unfolding with_component innermost around levels
fits-begin d m ls h = (omega (arith, h.0, h.1.0), h.1.1)

fits-end : (d : ℕ) (ls : List Level) → suc d ≤ most_levels → Fits d ls → Fits (suc d) (level [] leaf ∷ ls)
unfolding innermost around levels
fits-end d ls k h = (omega arith, h)

fits-property : (d : ℕ) (p : Property) (ls : List Level) → Fits (suc d) ls → Fits (suc d) (with_property p ls)
unfolding with_property innermost around
fits-property d p ls h = h

fits : (es : List (Event Property)) (n : List ℕ) (ns : List (List ℕ)) → suc (length ns) ≤ most_levels → nest_after (inside n ns) es ≡ closed → Fits (suc (length ns)) (levels_from es)
unfolding nest_after nest levels_from left
fits [] n ns d h = let z : ◌≡◌ {A = ℕ} 0 1 = cc in absurd (omega arith)
fits (begins m ∷ es) n ns d h = cases (leb most_levels (suc (length ns)))
    (λ e. never-closed 6 es (rw e at h))
    (λ e. fits-begin (length ns) m (levels_from es) (fits es m (n ∷ ns) (omega (arith, leb-false most_levels (suc (length ns)) e)) (rw e at h)))
fits (ends m ∷ es) n [] d h = fits-end 0 (levels_from es) d tt
fits (ends m ∷ es) n (k ∷ ns) d h = cases (same m n)
    (λ e. fits-end (suc (length ns)) (levels_from es) d (fits es k ns (omega arith) (rw e at h)))
    (λ e. never-closed 5 es (rw e at h))
fits (carries p ∷ es) n ns d h = fits-property (length ns) p (levels_from es) (fits es n ns d h)
fits (stray ∷ es) n ns d h = never-closed 5 es h

-- THE LAW: the component is a VCALENDAR within the limit
pub record Top (c : Component) : Type 0 where
  pub named : IsTop c
  pub deep : levels c ≤ most_levels

pub top_of : (es : List (Event Property)) → nest_after fresh es ≡ closed → Top (tree_of es)
unfolding nest_after nest tree_of levels_from outermost with_component innermost levels
top_of [] h = let z : ◌≡◌ {A = ℕ} 0 1 = cc in absurd (omega arith)
top_of (begins m ∷ es) h = cases (same m (octets "vcalendar"))
    (λ e. record { named = e; deep = (let f = fits es m [] (omega (arith, most-levels)) (rw e at h) in omega (arith, f.0)) })
    (λ e. never-closed 5 es (rw e at h))
top_of (ends m ∷ es) h = never-closed 5 es h
top_of (carries p ∷ es) h = never-closed 5 es h
top_of (stray ∷ es) h = never-closed 5 es h

-- an event in front of those that are accepted
pub behind-accepted {ℓ} : {P : Type ℓ} {B : Type 0} (e : Event B) (a : Answer (List (Event B))) (ps : List (Event B)) → behind_event e a ≡ accepted ps
    → ((qs : List (Event B)) → a ≡ accepted qs → e ∷ qs ≡ ps → P) → P
unfolding behind_event
behind-accepted e (refused n) ps h k = not-accepted h
behind-accepted e (accepted qs) ps h k = k qs refl (accepted-same h)

-- what is known of an event: a name of a component is lowercase, and F of a property
abbrev pub Known : {A : Type 0} → (A → Type 0) → Event A → Type 0
Known F (begins n) = is_lower_name n ≡ true
Known F (ends n) = Unit {0}
Known F (carries a) = F a
Known F stray = Unit {0}

-- THE LAW: closed events whose properties f accepts go in step with what it makes of them
module _ {A B : Type 0} (F : A → Type 0) (f : A → Answer B) where
  abbrev pub Reads : A → B → Type 0
  Reads a b = F a × (f a ≡ accepted b)

  behind : {e : Event A} {g : Event B} {es : List (Event A)} {qs ps : List (Event B)} → g ∷ qs ≡ ps → EventStep Reads e g → Steps Reads es qs → Steps Reads (e ∷ es) ps
  behind {e} {g} {es} {qs} {ps} q r s = subst (Steps Reads (e ∷ es)) q (pair r s)

  pub read-steps : (es : List (Event A)) (ps : List (Event B)) (s : Nest) → each_property f es ≡ accepted ps → nest_after s es ≡ closed → All (Known F) es → Steps Reads es ps
  unfolding each_property nest_after
  read-steps [] ps s e h k = subst (Steps Reads []) (accepted-same e) no-pair
  read-steps (begins n ∷ es) ps s e h k =
      behind-accepted (begins n) (each_property f es) ps e (λ qs r q. behind q (both-begin k.0) (read-steps es qs (nest {A = A} s (begins n)) r h k.1))
  read-steps (ends n ∷ es) ps s e h k =
      behind-accepted (ends n) (each_property f es) ps e (λ qs r q. behind q both_end (read-steps es qs (nest {A = A} s (ends n)) r h k.1))
  read-steps (carries a ∷ es) ps s e h k =
      then-accepted (f a) (λ b. behind_event (carries b) (each_property f es)) ps e (λ b w m.
      behind-accepted (carries b) (each_property f es) ps m (λ qs r q. behind q (both_hold (k.0, w)) (read-steps es qs (nest s (carries a)) r h k.1)))
  read-steps (stray ∷ es) ps s e h k = stray-closed s es h
