-- Two lists pairwise related, events in step, and components of one shape: the same names, and properties that are related one by one.
use Prim.Native.Nat.{ℕ}
use mathlib.Core.Path.{◌≡◌, refl, ap, ◌∙◌}
use mathlib.Core.Bool.{true}
use mathlib.Core.List.{List, [], ◌∷◌, ◌++◌}
use Rattle.octets.specs.Basics.{All}
use Rattle.octets.specs.Classes.{is_lower_name}
use Rattle.octets.specs.Answers.{Answer, accepted, then}
use Rattle.conversion_theory.specs.Tree.{Property, Component, component, Forest, leaf, grow}
use Rattle.conversion_theory.specs.Structure.{Event, begins, ends, carries, Nest, fresh, closed, inside, fault, nest, nest_after}
use Rattle.conversion_theory.specs.Growth.{Level, innermost, around, with_property, with_component, levels_from, outermost, tree_of, each_property, behind_event}

-- of one length, and related one by one
module _ {A B : Type 0} (R : A → B → Type 0) where
  pub data Pairwise : List A → List B → Type 0 where
    no-pair : Pairwise [] []
    pair : {a : A} {b : B} {xs : List A} {ys : List B} → R a b → Pairwise xs ys → Pairwise (a ∷ xs) (b ∷ ys)

pub pairs-append : {A B : Type 0} {R : A → B → Type 0} {xs us : List A} {ys vs : List B} → Pairwise R xs ys → Pairwise R us vs → Pairwise R (xs ++ us) (ys ++ vs)
pairs-append no-pair m = m
pairs-append (pair r l) m = pair r (pairs-append l m)

pub pairs-weaker : {A B : Type 0} {R S : A → B → Type 0} {xs : List A} {ys : List B} → ((a : A) (b : B) → R a b → S a b) → Pairwise R xs ys → Pairwise S xs ys
pairs-weaker f no-pair = no-pair
pairs-weaker f (pair r l) = pair (f _ _ r) (pairs-weaker f l)

pub pairs-all : {A B : Type 0} {R : A → B → Type 0} {P : A → Type 0} {xs : List A} {ys : List B} → ((a : A) (b : B) → R a b → P a) → Pairwise R xs ys → All P xs
pairs-all f no-pair = tt
pairs-all f (pair r l) = (f _ _ r, pairs-all f l)

-- two events of one kind: the same lowercase name, or properties that are related
module _ {A B : Type 0} (R : A → B → Type 0) where
  pub data EventStep : Event A → Event B → Type 0 where
    both-begin : {n : List ℕ} → is_lower_name n ≡ true → EventStep (begins n) (begins n)
    both_end : {n : List ℕ} → EventStep (ends n) (ends n)
    both_hold : {a : A} {b : B} → R a b → EventStep (carries a) (carries b)

abbrev pub Steps : {A B : Type 0} → (A → B → Type 0) → List (Event A) → List (Event B) → Type 0
Steps R es fs = Pairwise (EventStep R) es fs

-- events in step nest alike
step-nest : {A B : Type 0} {R : A → B → Type 0} {e : Event A} {f : Event B} (s : Nest) → EventStep R e f → nest s e ≡ nest s f
unfolding nest
step-nest fresh (both-begin n) = refl
step-nest closed (both-begin n) = refl
step-nest (inside m ms) (both-begin n) = refl
step-nest (fault k) (both-begin n) = refl
step-nest fresh both_end = refl
step-nest closed both_end = refl
step-nest (inside m ms) both_end = refl
step-nest (fault k) both_end = refl
step-nest fresh (both_hold r) = refl
step-nest closed (both_hold r) = refl
step-nest (inside m ms) (both_hold r) = refl
step-nest (fault k) (both_hold r) = refl

pub steps-nest : {A B : Type 0} {R : A → B → Type 0} {es : List (Event A)} {fs : List (Event B)} (s : Nest) → Steps R es fs → nest_after s es ≡ nest_after s fs
unfolding nest_after
steps-nest s no-pair = refl
steps-nest s (pair {a = e} {b = f} {xs = es} {ys = fs} r l) = ap (λ (t : Nest). nest_after t es) (step-nest s r) ∙ steps-nest (nest s f) l

-- events whose properties f accepts
pub steps-read : {A B : Type 0} (f : A → Answer B) {es : List (Event A)} {fs : List (Event B)} → Steps (λ a b. f a ≡ accepted b) es fs → each_property f es ≡ accepted fs
unfolding each_property behind_event then
steps-read f no-pair = refl
steps-read f (pair (both-begin n) l) = rw (steps-read f l)
steps-read f (pair both_end l) = rw (steps-read f l)
steps-read f (pair (both_hold r) l) = rw (r, steps-read f l)

-- components of one shape, all names lowercase
module _ (R : Property → Property → Type 0) where
  mutual
    pub data Alike : Component → Component → Type 0 where
      alike : {n : List ℕ} {ps qs : List Property} {cs ds : Forest} → is_lower_name n ≡ true → Pairwise R ps qs → Alikes cs ds → Alike (component n ps cs) (component n qs ds)

    pub data Alikes : Forest → Forest → Type 0 where
      no_more : Alikes leaf leaf
      one_more : {c d : Component} {cs ds : Forest} → Alike c d → Alikes cs ds → Alikes (grow c cs) (grow d ds)

  pub record AlikeLevel (k l : Level) : Type 0 where
    pub properties : Pairwise R k.properties l.properties
    pub subs : Alikes k.subs l.subs

  unfoldable pub first_alike : {ks ls : List Level} → Pairwise AlikeLevel ks ls → AlikeLevel (innermost ks) (innermost ls)
  unfolding innermost
  first_alike no-pair = record { properties = no-pair; subs = no_more }
  first_alike (pair h r) = h

  unfoldable pub around-alike : {ks ls : List Level} → Pairwise AlikeLevel ks ls → Pairwise AlikeLevel (around ks) (around ls)
  unfolding around
  around-alike no-pair = no-pair
  around-alike (pair h r) = r

  unfoldable pub levels-alike : {es fs : List (Event Property)} → Steps R es fs → Pairwise AlikeLevel (levels_from es) (levels_from fs)
  unfolding levels_from with_property with_component
  levels-alike no-pair = no-pair
  levels-alike (pair (both-begin n) l) =
      let here = levels-alike l in
      let out = first_alike (around-alike here) in
      pair (record { properties = out.properties; subs = one_more (alike n (first_alike here).properties (first_alike here).subs) out.subs }) (around-alike (around-alike here))
  levels-alike (pair both_end l) = pair (record { properties = no-pair; subs = no_more }) (levels-alike l)
  levels-alike (pair (both_hold r) l) =
      let here = levels-alike l in
      pair (record { properties = pair r (first_alike here).properties; subs = (first_alike here).subs }) (around-alike here)

  -- THE LAW: events in step, the first of which begins a component, make components of one shape
  unfoldable pub trees-alike : (n : List ℕ) {es fs : List (Event Property)} → is_lower_name n ≡ true → Steps R es fs → Alike (tree_of (begins n ∷ es)) (tree_of (begins n ∷ fs))
  unfolding tree_of levels_from outermost with_component innermost
  trees-alike n h l = let here = first_alike (levels-alike l) in alike h here.properties here.subs

-- a component whose names are lowercase and whose properties all are so
module _ (P : Property → Type 0) where
  mutual
    pub data Made : Component → Type 0 where
      made : {n : List ℕ} {ps : List Property} {cs : Forest} → is_lower_name n ≡ true → All P ps → MadeIn cs → Made (component n ps cs)

    pub data MadeIn : Forest → Type 0 where
      nothing-more : MadeIn leaf
      made_more : {c : Component} {cs : Forest} → Made c → MadeIn cs → MadeIn (grow c cs)

module _ {R : Property → Property → Type 0} {P : Property → Type 0} (f : (q p : Property) → R q p → P q) where
  mutual
    pub alike-made : {c d : Component} → Alike R c d → Made P c
    alike-made (alike n ps cs) = made n (pairs-all f ps) (alikes-made cs)

    alikes-made : {cs ds : Forest} → Alikes R cs ds → MadeIn P cs
    alikes-made no_more = nothing-more
    alikes-made (one_more c cs) = made_more (alike-made c) (alikes-made cs)

-- what the relation tells of properties
module _ {R S : Property → Property → Type 0} (f : (q p : Property) → R q p → S q p) where
  mutual
    pub alike-weaker : {c d : Component} → Alike R c d → Alike S c d
    alike-weaker (alike n ps cs) = alike n (pairs-weaker f ps) (alikes-weaker cs)

    alikes-weaker : {cs ds : Forest} → Alikes R cs ds → Alikes S cs ds
    alikes-weaker no_more = no_more
    alikes-weaker (one_more c cs) = one_more (alike-weaker c) (alikes-weaker cs)
