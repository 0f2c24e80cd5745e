-- Pieces that are written one after the other, each but the first behind a separator.
use Prim.Native.Nat.{ℕ, zero, suc, ◌+◌, ◌<◌}
use mathlib.Core.Path.{◌≡◌, refl, sym, ap, ◌∙◌}
use mathlib.Core.List.{List, [], ◌∷◌, ◌++◌, map, append-nil}
use native.Mathlib.Omega.{arith}
use lib.Dec.{eqb}
use lib.ListN.{length, drop, get_or}
use Rattle.std.specs.List.{slice_split, enumerate_from}
use Rattle.std.proofs.lemmas.List.{drop_more, drop_all, get_or-map, length-map}
use Rattle.std.proofs.lemmas.List.FromFn.{length-enumerate_from, get_or-enumerate_from}
use Rattle.octets.specs.Pieces.{split, joined}
use Rattle.calendar.proofs.Pieces.{pieces-are}
use Rattle.ical_recur.specs.Wording.{mark_before}

-- the mark in front of a piece
pub first-mark : (sep n : ℕ) → n ≡ 0 → [] ≡ mark_before sep n
unfolding mark_before
first-mark sep zero e = refl
first-mark sep (suc n) e = absurd (omega arith)

pub next-mark : (sep n : ℕ) → ((n ≡ 0) → ⊥) → sep ∷ [] ≡ mark_before sep n
unfolding mark_before
next-mark sep zero e = absurd (e refl)
next-mark sep (suc n) e = refl

module _ (sep : ℕ) where
  -- what is left to write in front of the pieces ls, of which the first is the n-th
  abbrev pub left : ℕ → List (List ℕ) → List ℕ
  left n [] = []
  left n (l ∷ ls) = mark_before sep n ++ joined sep (l ∷ ls)

  pub left-all : (ls : List (List ℕ)) → joined sep ls ≡ left 0 ls
  unfolding joined mark_before
  left-all [] = refl
  left-all (l ∷ ls) = refl

  pub left-more : (n : ℕ) (l : List ℕ) (ls : List (List ℕ)) → joined sep (l ∷ ls) ≡ l ++ left (n + 1) ls
  unfolding joined mark_before
  left-more n l [] = sym (append-nil l)
  left-more n l (m ∷ ls) = ap (λ (z : List ℕ). l ++ (z ++ joined sep (m ∷ ls))) (next-mark sep (n + 1) (λ e. omega arith))

-- the pieces as a chain of iterators counts them
module _ (sep : ℕ) (f : List ℕ → List ℕ) (s : List ℕ) (i : ℕ) where
  pub turn : (x : ℕ × List ℕ) → (i < length (enumerate_from 0 (slice_split (λ y. eqb y sep) s))) × (x ≡ get_or (enumerate_from 0 (slice_split (λ y. eqb y sep) s)) i x)
      → (x.0 ≡ i) × (left sep i (drop i (map f (split sep s))) ≡ mark_before sep i ++ (f x.1 ++ left sep (i + 1) (drop (i + 1) (map f (split sep s)))))
  turn x h =
      let b : i < length (slice_split (λ y. eqb y sep) s) = omega (arith, h.0, length-enumerate_from 0 (slice_split (λ y. eqb y sep) s)) in
      let e : x ≡ (0 + i, get_or (slice_split (λ y. eqb y sep) s) i x.1) = h.1 ∙ get_or-enumerate_from 0 (slice_split (λ y. eqb y sep) s) i x b in
      let n : x.0 ≡ 0 + i = ap (λ (p : ℕ × List ℕ). p.0) e in
      let w : x.1 ≡ get_or (slice_split (λ y. eqb y sep) s) i x.1 = ap (λ (p : ℕ × List ℕ). p.1) e in
      let m : i < length (map f (slice_split (λ y. eqb y sep) s)) = omega (arith, b, length-map (slice_split (λ y. eqb y sep) s) f) in
      let d : drop i (map f (slice_split (λ y. eqb y sep) s)) ≡ f x.1 ∷ drop (i + 1) (map f (slice_split (λ y. eqb y sep) s)) =
      drop_more (map f (slice_split (λ y. eqb y sep) s)) i (f x.1) m ∙ ap (λ (z : List ℕ). z ∷ drop (i + 1) (map f (slice_split (λ y. eqb y sep) s))) (get_or-map f (slice_split (λ y. eqb y sep) s) i x.1 (f x.1) b ∙ ap f (sym w)) in
      (omega arith, rw (← (pieces-are sep s), d) (ap (λ (z : List ℕ). mark_before sep i ++ z) (left-more sep i (f x.1) (drop (i + 1) (map f (slice_split (λ y. eqb y sep) s))))))

  pub done : i ≡ length (enumerate_from 0 (slice_split (λ y. eqb y sep) s)) → left sep i (drop i (map f (split sep s))) ≡ []
  done h =
      let d : drop i (map f (slice_split (λ y. eqb y sep) s)) ≡ [] = drop_all i (map f (slice_split (λ y. eqb y sep) s)) (omega (arith, h, length-enumerate_from 0 (slice_split (λ y. eqb y sep) s), length-map (slice_split (λ y. eqb y sep) s) f)) in
      rw (← (pieces-are sep s), d)
