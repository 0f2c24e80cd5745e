-- Pieces of a text by places: the piece before the first separator, and the pieces behind it; and pieces in uppercase.
use Prim.Native.Nat.{ℕ, zero, suc, ◌+◌, ◌-◌, ◌≤◌, ◌<◌}
use Prim.Native.Char.{code}
use mathlib.Core.Path.{◌≡◌, refl, ap, ◌∙◌}
use mathlib.Core.Bool.{Bool, true, false}
use mathlib.Core.List.{List, [], ◌∷◌, map}
use native.Mathlib.Numerals.{add-one}
use native.Mathlib.Omega.{arith}
use lib.Dec.{eqb}
use lib.ListN.{length, take, drop, length-drop, get_or}
use lib.Seq.{take_all}
use Rattle.std.specs.List.{slice_split, onto_first}
use Rattle.octets.specs.Basics.{pick}
use Rattle.octets.specs.Classes.{between, is_upper, is_lower, upper_octet, upper}
use Rattle.octets.specs.Pieces.{split, onto, cut}
use Rattle.octets.proofs.Cases.{cases, apart}
use Rattle.octets.proofs.Classes.{between-true, within-between}
use Rattle.octets.proofs.Positions.{from, here, ended}
use Rattle.octets.proofs.Search.{le-by, take_by}
use Rattle.octets.specs.Search.{until}
use Rattle.calendar.specs.Walk.{before_first}
use borrow.Author.Tests.{eq-eqb, ne_eqb}

-- the piece before the first separator
more_by : (b : Bool) (c : ℕ) (l s : List ℕ) (f : List ℕ → List (List ℕ)) (ls : List (List ℕ)) → length (pick b [] (c ∷ l)) < suc (length s)
    → f s ≡ ls → (length l < length s → ls ≡ l ∷ f (drop (suc (length l)) s))
    → cut b c ls ≡ pick b [] (c ∷ l) ∷ f (drop (length (pick b [] (c ∷ l))) s)
unfolding cut onto
more_by true c l s f ls h e ih = rw e
more_by false c l s f ls h e ih = rw (ih (omega arith))

last-by : (b : Bool) (c : ℕ) (l s : List ℕ) (ls : List (List ℕ)) → suc (length s) ≤ length (pick b [] (c ∷ l)) → (length s ≤ length l → ls ≡ s ∷ []) → cut b c ls ≡ (c ∷ s) ∷ []
unfolding cut onto
last-by true c l s ls h ih = absurd (omega arith)
last-by false c l s ls h ih = rw (ih (omega arith))

module _ (sep : ℕ) where
  pub before-le : (s : List ℕ) → length (before_first sep s) ≤ length s
  unfolding before_first
  before-le [] = omega arith
  before-le (c ∷ s) = le-by (eqb c sep) c (before_first sep s) s (before-le s)

  pub before-take : (s : List ℕ) → before_first sep s ≡ take (length (before_first sep s)) s
  unfolding before_first
  before-take [] = refl
  before-take (c ∷ s) = take_by (eqb c sep) c (before_first sep s) s (before-take s)

  more : (s : List ℕ) → length (before_first sep s) < length s → split sep s ≡ before_first sep s ∷ split sep (drop (suc (length (before_first sep s))) s)
  unfolding split before_first
  more [] h = absurd (omega arith)
  more (c ∷ s) h = more_by (eqb c sep) c (before_first sep s) s (split sep) (split sep s) h refl (more s)

  -- a separator follows, and then other pieces
  pub split-more : (s : List ℕ) → length (before_first sep s) < length s → split sep s ≡ before_first sep s ∷ split sep (drop (length (before_first sep s) + 1) s)
  split-more s h = rw add-one (more s h)

  -- no separator follows
  pub before-all : (s : List ℕ) → length s ≤ length (before_first sep s) → before_first sep s ≡ s
  before-all s h = before-take s ∙ take_all (length (before_first sep s)) s h

  last : (s : List ℕ) → length s ≤ length (before_first sep s) → split sep s ≡ s ∷ []
  unfolding split before_first
  last [] h = refl
  last (c ∷ s) h = last-by (eqb c sep) c (before_first sep s) s (split sep s) h (last s)

  pub split-last : (s : List ℕ) → length s ≤ length (before_first sep s) → split sep s ≡ before_first sep s ∷ []
  split-last s h = rw (before-all s h) (last s h)

-- uppercase neither makes nor takes away a separator
abbrev pub Uncased : ℕ → Type 0
Uncased sep = (c : ℕ) → eqb (upper_octet c) sep ≡ eqb c sep

pub uncased : (sep : ℕ) → is_lower sep ≡ false → is_upper sep ≡ false → Uncased sep
unfolding upper_octet
uncased sep l u c = cases (is_lower c)
    (λ e. rw (e, apart is_lower c sep e l, apart is_upper (c - 32) sep (raised c e) u))
    (λ e. rw e)
  where
    raised : (c : ℕ) → is_lower c ≡ true → is_upper (c - 32) ≡ true
    raised c e = unfold is_lower is_upper in (let b = between-true (code "a") (code "z") c e in within-between (code "A") (code "Z") (c - 32) (omega arith) (omega arith))

pub comma-uncased : Uncased (code ",")
unfolding is_lower is_upper between
comma-uncased = uncased (code ",") refl refl

pub semicolon-uncased : Uncased (code ";")
unfolding is_lower is_upper between
semicolon-uncased = uncased (code ";") refl refl

pub equals-uncased : Uncased (code "=")
unfolding is_lower is_upper between
equals-uncased = uncased (code "=") refl refl

pub upper-take : (n : ℕ) (s : List ℕ) → upper (take n s) ≡ take n (upper s)
unfolding upper
upper-take zero s = refl
upper-take (suc n) [] = refl
upper-take (suc n) (c ∷ s) = ap (λ (l : List ℕ). upper_octet c ∷ l) (upper-take n s)

pub upper-drop : (n : ℕ) (s : List ℕ) → upper (drop n s) ≡ drop n (upper s)
unfolding upper
upper-drop zero s = refl
upper-drop (suc n) [] = refl
upper-drop (suc n) (c ∷ s) = upper-drop n s

module _ (sep : ℕ) (u : Uncased sep) where
  cut-upper : (b : Bool) (c : ℕ) (ls : List (List ℕ)) → cut b (upper_octet c) (map upper ls) ≡ map upper (cut b c ls)
  unfolding cut onto upper
  cut-upper true c ls = refl
  cut-upper false c [] = refl
  cut-upper false c (l ∷ ls) = refl

  pub split-upper : (s : List ℕ) → split sep (upper s) ≡ map upper (split sep s)
  unfolding split upper
  split-upper [] = refl
  split-upper (c ∷ s) = rw (u c, split-upper s) (cut-upper (eqb c sep) c (split sep s))

-- a scan of `&s[at..]`
module _ (sep : ℕ) (s : List ℕ) (at e : ℕ) (is : e ≡ length (before_first sep (take (length s - at) (drop at s)))) where
  pub scanned : e ≡ length (before_first sep (drop at s))
  scanned = rw (from s at) at is

  pub scanned-le : e ≤ length s - at
  scanned-le = omega (arith, scanned, before-le sep (drop at s), length-drop at s)

  pub scanned-in : e < length (take (length s - at) (drop at s)) → e < length s - at
  scanned-in h = rw (from s at, length-drop at s) at h

-- the octets before the first separator, as the search for it has them
pub before-until : (sep : ℕ) (s : List ℕ) → before_first sep s ≡ until (λ c. eqb c sep) s
unfolding before_first until
before-until sep [] = refl
before-until sep (c ∷ s) = rw (before-until sep s)

-- the pieces of a chain of iterators are those of the definitions
onto-same : (x : ℕ) (ls : List (List ℕ)) → onto_first x ls ≡ onto x ls
unfolding onto
onto-same x [] = refl
onto-same x (l ∷ ls) = refl

pub pieces-are : (sep : ℕ) (s : List ℕ) → slice_split (λ x. eqb x sep) s ≡ split sep s
unfolding split cut
pieces-are sep [] = refl
pieces-are sep (x ∷ s) = cases (eqb x sep)
    (λ e. rw e (ap (◌∷◌ []) (pieces-are sep s)))
    (λ e. rw e (ap (onto_first x) (pieces-are sep s) ∙ onto-same x (split sep s)))

module _ (sep : ℕ) where
  -- for a scan: the separator stands at i; it does not; or the end is reached
  module _ (s : List ℕ) (i : ℕ) where
    pub before_here : i < length s → get_or s i 0 ≡ sep → length (before_first sep (drop i s)) ≡ 0
    unfolding before_first
    before_here h e = rw (here s i h, eq-eqb (get_or s i 0) sep e)

    pub before_on : i < length s → (get_or s i 0 ≡ sep → ⊥) → length (before_first sep (drop i s)) ≡ suc (length (before_first sep (drop (i + 1) s)))
    unfolding before_first
    before_on h n = rw (here s i h, ne_eqb (get_or s i 0) sep n)

    pub before-end : length s ≤ i → length (before_first sep (drop i s)) ≡ 0
    unfolding before_first
    before-end h = rw (ended s i h)
