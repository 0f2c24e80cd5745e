-- Texts cut at separators that stand in no quotes: what is put together with a separator is taken apart again.
use Prim.Native.Nat.{ℕ}
use Prim.Native.Char.{code}
use mathlib.Core.Path.{◌≡◌, refl}
use mathlib.Core.Bool.{Bool, true, false}
use mathlib.Core.List.{List, [], ◌∷◌, ◌++◌}
use lib.Dec.{eqb}
use Rattle.octets.specs.Basics.{All}
use Rattle.octets.specs.Pieces.{onto, cut, joined}
use Rattle.octets.proofs.Cases.{itself}
use Rattle.octets.proofs.Pieces.{Free}
use Rattle.content.specs.Line.{quote_after, bare, before, behind, pieces}
use Rattle.content.specs.Form.{has_bare}

-- from the quote state q on no bare `sep` stands in the text, and its quotes are closed
abbrev pub Closed : ℕ → Bool → List ℕ → Type 0
Closed sep q [] = q ≡ false
Closed sep q (x ∷ xs) = (bare sep q x ≡ false) × Closed sep (quote_after q x) xs

module _ (sep : ℕ) where
  bare-sep : bare sep false sep ≡ true
  unfolding bare
  bare-sep = itself sep

  pub has-closed : (q : Bool) (xs ys : List ℕ) → Closed sep q xs → has_bare sep q (xs ++ sep ∷ ys) ≡ true
  unfolding has_bare
  has-closed q [] ys h = rw (h, bare-sep)
  has-closed q (x ∷ xs) ys h = rw h.0 (has-closed (quote_after q x) xs ys h.1)

  pub before-closed : (q : Bool) (xs ys : List ℕ) → Closed sep q xs → before sep q (xs ++ sep ∷ ys) ≡ xs
  unfolding before
  before-closed q [] ys h = rw (h, bare-sep)
  before-closed q (x ∷ xs) ys h = rw (h.0, before-closed (quote_after q x) xs ys h.1)

  pub behind-closed : (q : Bool) (xs ys : List ℕ) → Closed sep q xs → behind sep q (xs ++ sep ∷ ys) ≡ ys
  unfolding behind
  behind-closed q [] ys h = rw (h, bare-sep)
  behind-closed q (x ∷ xs) ys h = rw (h.0, behind-closed (quote_after q x) xs ys h.1)

  pub pieces-last : (q : Bool) (xs : List ℕ) → Closed sep q xs → pieces sep q xs ≡ xs ∷ []
  unfolding pieces cut onto
  pieces-last q [] h = refl
  pieces-last q (x ∷ xs) h = rw (h.0, pieces-last (quote_after q x) xs h.1)

  pub closed-append : (q : Bool) (xs ys : List ℕ) → Closed sep q xs → Closed sep false ys → Closed sep q (xs ++ ys)
  closed-append q [] ys h k = rw h k
  closed-append q (x ∷ xs) ys h k = (h.0, closed-append (quote_after q x) xs ys h.1 k)

  -- an octet that is neither `sep` nor a double quote
  abbrev pub Inner : ℕ → Type 0
  Inner x = (eqb x sep ≡ false) × (eqb x (code "\"") ≡ false)

  pub closed-cons : (x : ℕ) (xs : List ℕ) → Inner x → Closed sep false xs → Closed sep false (x ∷ xs)
  unfolding quote_after bare
  closed-cons x xs i h = (i.0, rw i.1 h)

  pub closed_all : (xs : List ℕ) → All Inner xs → Closed sep false xs
  closed_all [] h = refl
  closed_all (x ∷ xs) h = closed-cons x xs h.0 (closed_all xs h.1)

  in-quotes : (v : List ℕ) → Free (code "\"") v → Closed sep true (v ++ code "\"" ∷ [])
  unfolding bare quote_after
  in-quotes [] h = (refl, refl)
  in-quotes (x ∷ v) h = (refl, rw h.0 (in-quotes v h.1))

  pub closed-quoted : eqb (code "\"") sep ≡ false → (v : List ℕ) → Free (code "\"") v → Closed sep false (code "\"" ∷ v ++ code "\"" ∷ [])
  unfolding bare quote_after
  closed-quoted n v h = (n, in-quotes v h)

  pub closed-joined : (s : ℕ) → Inner s → (ls : List (List ℕ)) → All (Closed sep false) ls → Closed sep false (joined s ls)
  unfolding joined
  closed-joined s i [] h = refl
  closed-joined s i (l ∷ []) h = h.0
  closed-joined s i (l ∷ m ∷ ls) h = closed-append false l (s ∷ joined s (m ∷ ls)) h.0 (closed-cons s (joined s (m ∷ ls)) i (closed-joined s i (m ∷ ls) h.1))

  -- `sep` itself leaves the quote state as it is
  module _ (n : eqb sep (code "\"") ≡ false) where
    pub pieces-part : (q : Bool) (xs ys : List ℕ) → Closed sep q xs → pieces sep q (xs ++ sep ∷ ys) ≡ xs ∷ pieces sep false ys
    unfolding pieces cut onto quote_after
    pieces-part q [] ys h = rw (h, bare-sep, n)
    pieces-part q (x ∷ xs) ys h = rw (h.0, pieces-part (quote_after q x) xs ys h.1)

    pub pieces-joined : (l : List ℕ) (ls : List (List ℕ)) → All (Closed sep false) (l ∷ ls) → pieces sep false (joined sep (l ∷ ls)) ≡ l ∷ ls
    unfolding joined
    pieces-joined l [] h = pieces-last false l h.0
    pieces-joined l (m ∷ ls) h = rw (pieces-part false l (joined sep (m ∷ ls)) h.0, pieces-joined m ls h.1)
