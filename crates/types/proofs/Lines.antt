-- The lines of a file: the first one, and those behind it.
use Prim.Native.Nat.{ℕ, suc, ◌+◌, ◌≤◌, ◌<◌}
use Prim.Native.Char.{code}
use mathlib.Core.Path.{◌≡◌, refl, sym, ap, ◌∙◌}
use mathlib.Core.List.{List, [], ◌∷◌}
use native.Mathlib.Omega.{arith}
use native.Mathlib.Numerals.{add-one}
use lib.Dec.{eqb}
use lib.ListN.{length, take, drop, length-take, get_or}
use lib.Seq.{length-take-le}
use Rattle.octets.specs.Pieces.{onto, cut, split}
use Rattle.octets.specs.Search.{until}
use Rattle.octets.proofs.Cases.{cases}
use borrow.Author.Tests.{eq-eqb, ne_eqb}
use Rattle.octets.proofs.Positions.{here, ended}

-- the first of some pieces
unfoldable pub first_piece : List (List ℕ) → List ℕ
first_piece [] = []
first_piece (l ∷ ls) = l

-- the octets before the first line feed
unfoldable pub first_line : List ℕ → List ℕ
first_line s = first_piece (split (code "\n") s)

-- it is what a search for the line feed passes
pub line-sought : (s : List ℕ) → length (until (λ c. eqb c (code "\n")) s) ≡ length (first_line s)
unfolding until first_line first_piece split cut
line-sought [] = refl
line-sought (x ∷ s) = cases (eqb x (code "\n")) (λ e. rw e) (λ e. rw e (ap suc (line-sought s) ∙ sym (onto-first x (split (code "\n") s))))
  where
    onto-first : (x : ℕ) (ls : List (List ℕ)) → length (first_piece (onto x ls)) ≡ suc (length (first_piece ls))
    onto-first x [] = unfold onto first_piece in refl
    onto-first x (l ∷ ls) = unfold onto first_piece in refl

-- a text has no line feed, or its first line ends at one
split-cases {ℓ} : {P : Type ℓ} (s : List ℕ) → (split (code "\n") s ≡ s ∷ [] → P) → ((n : ℕ) → n < length s → split (code "\n") s ≡ take n s ∷ split (code "\n") (drop (n + 1) s) → P) → P
unfolding split cut onto
split-cases [] f g = f refl
split-cases (x ∷ s) f g = cases (eqb x (code "\n"))
    (λ e. g 0 (omega arith) (rw e))
    (λ e. split-cases s
    (λ q. f (rw (e, q)))
    (λ n h q. g (suc n) (omega arith) (rw (e, q, add-one n, add-one (suc n)))))

-- the first line of a text, and the lines behind it
module _ (s : List ℕ) where
  pub one_line : length (first_line s) ≡ length s → split (code "\n") s ≡ s ∷ []
  unfolding first_line first_piece
  one_line e = split-cases s (λ q. q) (λ n h q. absurd (off n h (sym (ap (λ (ls : List (List ℕ)). length (first_piece ls)) q) ∙ e)))
    where
      off : (n : ℕ) → n < length s → length (take n s) ≡ length s → ⊥
      off n h k = omega (arith, length-take n s)

  pub more-lines : length (first_line s) < length s → split (code "\n") s ≡ take (length (first_line s)) s ∷ split (code "\n") (drop (length (first_line s) + 1) s)
  unfolding first_line first_piece
  more-lines e = split-cases s
      (λ q. absurd (whole (ap (λ (ls : List (List ℕ)). length (first_piece ls)) q)))
      (λ n h q.
      let k : length (first_piece (split (code "\n") s)) ≡ n = ap (λ (ls : List (List ℕ)). length (first_piece ls)) q ∙ length-take-le n s (omega arith) in
      rw k q)
    where
      whole : length (first_piece (split (code "\n") s)) ≡ length s → ⊥
      whole k = omega arith

  pub line-within : length (first_line s) ≤ length s
  unfolding first_line first_piece
  line-within = split-cases s (λ q. rw q (omega arith)) (λ n h q. rw q (omega (arith, length-take n s)))

-- the first line grows with each octet that is no line feed
module _ (s : List ℕ) (i : ℕ) where
  pub line_on : i < length s → (get_or s i 0 ≡ code "\n" → ⊥) → length (first_line (drop i s)) ≡ suc (length (first_line (drop (i + 1) s)))
  unfolding first_line split cut
  line_on h n = rw (here s i h, ne_eqb (get_or s i 0) (code "\n") n) (onto-first (get_or s i 0) (split (code "\n") (drop (i + 1) s)))
    where
      onto-first : (x : ℕ) (ls : List (List ℕ)) → length (first_piece (onto x ls)) ≡ suc (length (first_piece ls))
      onto-first x [] = unfold onto first_piece in refl
      onto-first x (l ∷ ls) = unfold onto first_piece in refl

  pub line-stop : i < length s → get_or s i 0 ≡ code "\n" → length (first_line (drop i s)) ≡ 0
  unfolding first_line split cut first_piece
  line-stop h e = rw (here s i h, eq-eqb (get_or s i 0) (code "\n") e)

  pub line-last : length s ≤ i → length (first_line (drop i s)) ≡ 0
  unfolding first_line split first_piece
  line-last h = rw (ended s i h)
