-- Pieces between separators: what is joined is split again, and the law of a list from the law of its items.
use Prim.Native.Nat.{ℕ}
use mathlib.Core.Path.{◌≡◌, refl}
use mathlib.Core.Bool.{Bool, true, false}
use mathlib.Core.List.{List, [], ◌∷◌, ◌++◌, map}
use mathlib.Core.Option.{Option, none, some}
use native.Mathlib.Omega.{arith}
use borrow.Author.Tests.{eq-eqb}
use lib.Dec.{eqb}
use Rattle.octets.specs.Basics.{All}
use Rattle.octets.specs.Pieces.{onto, cut, split, joined}
use Rattle.octets.specs.Optional.{both?, each}
use Rattle.octets.proofs.Cases.{cases, same?}

-- no `sep` in it
abbrev pub Free : ℕ → List ℕ → Type 0
Free sep = All (λ x. eqb x sep ≡ false)

pub split-last : (sep : ℕ) (l : List ℕ) → Free sep l → split sep l ≡ l ∷ []
unfolding split cut onto
split-last sep [] h = refl
split-last sep (x ∷ l) h = rw (h.0, split-last sep l h.1)

pub split-part : (sep : ℕ) (l rest : List ℕ) → Free sep l → split sep (l ++ sep ∷ rest) ≡ l ∷ split sep rest
unfolding split cut onto
split-part sep [] rest h = rw (eq-eqb sep sep refl)
split-part sep (x ∷ l) rest h = rw (h.0, split-part sep l rest h.1)

pub split-joined : (sep : ℕ) (l : List ℕ) (ls : List (List ℕ)) → All (Free sep) (l ∷ ls) → split sep (joined sep (l ∷ ls)) ≡ l ∷ ls
unfolding joined
split-joined sep l [] h = split-last sep l h.0
split-joined sep l (m ∷ ls) h = rw (split-part sep l (joined sep (m ∷ ls)) h.0, split-joined sep m ls h.1)

free-onto : (sep x : ℕ) (ls : List (List ℕ)) → eqb x sep ≡ false → All (Free sep) ls → All (Free sep) (onto x ls)
unfolding onto
free-onto sep x [] n h = ((n, tt), tt)
free-onto sep x (l ∷ ls) n h = ((n, h.0), h.1)

pub split-free : (sep : ℕ) (s : List ℕ) → All (Free sep) (split sep s)
unfolding split cut
split-free sep [] = (tt, tt)
split-free sep (x ∷ s) = cases (eqb x sep)
    (λ e. rw e (tt, split-free sep s))
    (λ e. rw e (free-onto sep x (split sep s) e (split-free sep s)))

-- there is one piece at least
cut-filled : (b : Bool) (x : ℕ) (ls : List (List ℕ)) → cut b x ls ≡ [] → ⊥
unfolding cut onto
cut-filled true x ls e = let z : ◌≡◌ {A = ℕ} 0 1 = cc in omega arith
cut-filled false x [] e = let z : ◌≡◌ {A = ℕ} 0 1 = cc in omega arith
cut-filled false x (l ∷ ls) e = let z : ◌≡◌ {A = ℕ} 0 1 = cc in omega arith

pub split-filled : (sep : ℕ) (s : List ℕ) → split sep s ≡ [] → ⊥
unfolding split
split-filled sep [] e = let z : ◌≡◌ {A = ℕ} 0 1 = cc in omega arith
split-filled sep (x ∷ s) e = cut-filled (eqb x sep) x (split sep s) e

-- what is split is joined again
pub joined-onto : (sep x : ℕ) (ls : List (List ℕ)) → joined sep (onto x ls) ≡ x ∷ joined sep ls
unfolding joined onto
joined-onto sep x [] = refl
joined-onto sep x (l ∷ []) = refl
joined-onto sep x (l ∷ m ∷ ls) = refl

joined-cut : (sep : ℕ) (ls : List (List ℕ)) → (ls ≡ [] → ⊥) → joined sep ([] ∷ ls) ≡ sep ∷ joined sep ls
unfolding joined
joined-cut sep [] n = absurd (n refl)
joined-cut sep (l ∷ ls) n = refl

pub joined-split : (sep : ℕ) (s : List ℕ) → joined sep (split sep s) ≡ s
unfolding split cut
joined-split sep [] = unfold joined in refl
joined-split sep (x ∷ s) = same? x sep
    (λ e. rw (e, eq-eqb sep sep refl, joined-cut sep (split sep s) (split-filled sep s), joined-split sep s))
    (λ n. rw (n, joined-onto sep x (split sep s), joined-split sep s))

-- what a rule R reads of a piece, W writes without `sep` and so that R reads it again
abbrev pub Again : {A : Type 0} → ℕ → (List ℕ → Option A) → (A → List ℕ) → Type 0
Again {A} sep R W = (s : List ℕ) (a : A) → Free sep s → R s ≡ some a → (R (W a) ≡ some a) × Free sep (W a)

-- the items as they are written
pub record WrittenItems {A : Type 0} (R : List ℕ → Option A) (W : A → List ℕ) (sep : ℕ) (items : List A) : Type 0 where
  pub read : each R (map W items) ≡ some items
  pub free : All (Free sep) (map W items)

each-cons : {A : Type 0} (R : List ℕ → Option A) (W : A → List ℕ) (a : A) (items : List A) → R (W a) ≡ some a → each R (map W items) ≡ some items → each R (map W (a ∷ items)) ≡ some (a ∷ items)
unfolding each both?
each-cons R W a items e f = rw (e, f)

module _ {A : Type 0} (sep : ℕ) (R : List ℕ → Option A) (W : A → List ℕ) (law : Again sep R W) where
  item-again : (o : Option A) (r : Option (List A)) (items : List A)
      → both? ◌∷◌ o r ≡ some items
      → ((a : A) → o ≡ some a → (R (W a) ≡ some a) × Free sep (W a))
      → ((others : List A) → r ≡ some others → WrittenItems R W sep others)
      → WrittenItems R W sep items
  unfolding both?
  item-again none r items e f g = let z : ◌≡◌ {A = ℕ} 0 1 = cc in absurd (omega arith)
  item-again (some a) none items e f g = let z : ◌≡◌ {A = ℕ} 0 1 = cc in absurd (omega arith)
  item-again (some a) (some others) items e f g =
      let q : a ∷ others ≡ items = cc in
      let h = f a refl in
      let k = g others refl in
      rw (← q) (record { read = each-cons R W a others h.0 k.read; free = (h.1, k.free) })

  pub each_again : (ls : List (List ℕ)) (items : List A) → All (Free sep) ls → each R ls ≡ some items → WrittenItems R W sep items
  unfolding each
  each_again [] items h e = let q : [] ≡ items = cc in rw (← q) (record { read = unfold each in refl; free = tt })
  each_again (l ∷ ls) items h e = item-again (R l) (each R ls) items e (λ a d. law l a h.0 d) (λ others d. each_again ls others h.1 d)

  joined-again : (items : List A) → WrittenItems R W sep items → (items ≡ [] → ⊥) → each R (split sep (joined sep (map W items))) ≡ some items
  joined-again [] b n = absurd (n refl)
  joined-again (a ∷ items) b n = rw (split-joined sep (W a) (map W items) b.free) b.read

  no_items_lem : (o : Option A) (r : Option (List A)) → both? ◌∷◌ o r ≡ some [] → ⊥
  unfolding both?
  no_items_lem none r e = let z : ◌≡◌ {A = ℕ} 0 1 = cc in omega arith
  no_items_lem (some a) none e = let z : ◌≡◌ {A = ℕ} 0 1 = cc in omega arith
  no_items_lem (some a) (some others) e = let z : ◌≡◌ {A = ℕ} 0 1 = cc in omega arith

  some_item : (ls : List (List ℕ)) → (ls ≡ [] → ⊥) → each R ls ≡ some [] → ⊥
  unfolding each
  some_item [] n e = n refl
  some_item (l ∷ ls) n e = no_items_lem (R l) (each R ls) e

  -- the law of a list
  pub list-again : (s : List ℕ) (items : List A) → each R (split sep s) ≡ some items → each R (split sep (joined sep (map W items))) ≡ some items
  list-again s items e =
      joined-again items (each_again (split sep s) items (split-free sep s) e)
      (λ q. some_item (split sep s) (split-filled sep s) (rw q at e))
