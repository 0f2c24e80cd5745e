-- Lines in a buffer by their places: the line at a place, and the lines behind it; lines without LF, laid out, are found again.
use Prim.Native.Nat.{ℕ, suc, ◌+◌, ◌-◌, ◌≤◌, ◌<◌}
use Prim.Native.Char.{code}
use mathlib.Core.Path.{◌≡◌, refl, ap, ◌∙◌}
use mathlib.Core.Bool.{Bool, true, false}
use mathlib.Core.List.{List, [], ◌∷◌, ◌++◌}
use native.Mathlib.Omega.{arith}
use lib.Dec.{eqb}
use lib.ListN.{length, take, drop, length-drop}
use Rattle.octets.specs.Basics.{pick, all, All}
use Rattle.octets.specs.Pieces.{onto, cut}
use Rattle.octets.proofs.Cases.{cases}
use Rattle.octets.proofs.Pieces.{Free}
use Rattle.octets.proofs.Positions.{ended}
use Rattle.content.specs.Lines.{is_lf, cut_lines}
use Rattle.octets.specs.Search.{until}
use Rattle.content.specs.Buffer.{laid_out}
use Rattle.octets.proofs.Search.{scan-is, scan-rest}

-- the first line, and those behind it
onto-first : (c : ℕ) (s : List ℕ) → (0 < length s → cut_lines s ≡ until is_lf s ∷ cut_lines (drop (suc (length (until is_lf s))) s))
    → onto c (cut_lines s) ≡ (c ∷ until is_lf s) ∷ cut_lines (drop (suc (length (until is_lf s))) s)
unfolding onto cut_lines until
onto-first c [] h = refl
onto-first c (d ∷ s) h = rw (h (omega arith))

first_by : (b : Bool) (c : ℕ) (s : List ℕ) → (0 < length s → cut_lines s ≡ until is_lf s ∷ cut_lines (drop (suc (length (until is_lf s))) s))
    → cut b c (cut_lines s) ≡ pick b [] (c ∷ until is_lf s) ∷ cut_lines (drop (length (pick b [] (c ∷ until is_lf s))) s)
unfolding cut
first_by true c s h = refl
first_by false c s h = onto-first c s h

lines-first : (s : List ℕ) → 0 < length s → cut_lines s ≡ until is_lf s ∷ cut_lines (drop (suc (length (until is_lf s))) s)
unfolding cut_lines until
lines-first [] h = absurd (omega arith)
lines-first (c ∷ s) h = first_by (is_lf c) c s (lines-first s)

-- the line at i ends at e, and the next one begins behind it
pub line-here : (s : List ℕ) (i e : ℕ) → e ≡ i + length (until is_lf (drop i s)) → i < length s
    → cut_lines (drop i s) ≡ take (e - i) (drop i s) ∷ cut_lines (drop (e + 1) s)
line-here s i e q h =
    lines-first (drop i s) (rw (length-drop i s) (omega arith))
    ∙ rw (scan-rest is_lf s i e q, ← scan-is is_lf s i e q)

pub lines_none : (s : List ℕ) (i : ℕ) → length s ≤ i → cut_lines (drop i s) ≡ []
unfolding cut_lines
lines_none s i h = rw (ended s i h)

-- no LF in a line
free-onto : (c : ℕ) (ls : List (List ℕ)) → eqb c (code "\n") ≡ false → All (Free (code "\n")) ls → All (Free (code "\n")) (onto c ls)
unfolding onto
free-onto c [] e h = ((e, tt), tt)
free-onto c (l ∷ ls) e h = ((e, h.0), h.1)

pub cut-free : (s : List ℕ) → All (Free (code "\n")) (cut_lines s)
unfolding cut_lines cut
cut-free [] = tt
cut-free (c ∷ s) = cases (eqb c (code "\n"))
    (λ e. rw e (tt, cut-free s))
    (λ e. rw e (free-onto c (cut_lines s) e (cut-free s)))

-- lines without LF, laid out, are found again
cut-laid : (l : List ℕ) (s : List ℕ) → Free (code "\n") l → cut_lines (l ++ code "\n" ∷ s) ≡ l ∷ cut_lines s
unfolding cut_lines cut onto
cut-laid [] s h = refl
cut-laid (c ∷ l) s h = rw (h.0, cut-laid l s h.1)

pub lines-again : (ls : List (List ℕ)) → All (Free (code "\n")) ls → cut_lines (laid_out ls) ≡ ls
unfolding laid_out cut_lines
lines-again [] h = refl
lines-again (l ∷ ls) h = cut-laid l (laid_out ls) h.0 ∙ ap (λ (r : List (List ℕ)). l ∷ r) (lines-again ls h.1)

-- a test of every line: the line at i ends at e
module _ (f : List ℕ → Bool) (s : List ℕ) (i : ℕ) where
  pub all_none : length s ≤ i → all f (cut_lines (drop i s)) ≡ true
  unfolding all
  all_none h = rw (lines_none s i h)

  module _ (e : ℕ) (q : e ≡ i + length (until is_lf (drop i s))) (h : i < length s) where
    pub all-on : f (take (e - i) (drop i s)) ≡ true → all f (cut_lines (drop i s)) ≡ all f (cut_lines (drop (e + 1) s))
    unfolding all
    all-on t = rw (line-here s i e q h, t)

    pub all-off : f (take (e - i) (drop i s)) ≡ false → all f (cut_lines (drop i s)) ≡ false
    unfolding all
    all-off t = rw (line-here s i e q h, t)
