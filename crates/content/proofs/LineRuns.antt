-- Unfolding by runs: what stands before an LF goes into its line, but for a CR right before it; the LF ends the line or folds it.
use Prim.Native.Nat.{ℕ, suc, ◌+◌, ◌-◌, ◌≤◌, ◌<◌}
use Prim.Native.Char.{code}
use mathlib.Core.Path.{◌≡◌, refl, sym, ap, ◌∙◌}
use mathlib.Core.Bool.{Bool, true, false, not}
use mathlib.Core.List.{List, [], ◌∷◌, ◌++◌, append-nil, append_assoc}
use native.Mathlib.Omega.{arith}
use borrow.Author.Tests.{eqb-true, ne_eqb, ltb-true, ltb-false}
use lib.Dec.{eqb, ltb}
use lib.ListN.{length, get_or, take, drop}
use lib.Seq.{drop-drop}
use Rattle.octets.specs.Basics.{pick, ◌or◌, filled, All, ◌and◌}
use Rattle.octets.specs.Pieces.{onto, cut}
use Rattle.octets.proofs.Cases.{cases, and-false-right, or-false-right, or_true_right}
use Rattle.octets.proofs.Pieces.{Free}
use Rattle.octets.proofs.Positions.{here, ended, first_of, part_length}
use Rattle.content.specs.Lines.{newlines, is_blank, unfolded_from, is_lf, without_cr, cut_lines, lines_of}
use Rattle.octets.specs.Search.{until}
use Rattle.content.specs.Buffer.{laid_out}
use Rattle.octets.proofs.Search.{until-free, scan-is, scan-stop, scan-split, scan-whole}
use Rattle.content.proofs.LineStarts.{lines_none, lines-octet, lines-cr, behind_lf, lines-lf, lines-short}
use Rattle.content.proofs.Buffer.{cut-free}

-- octets in front of the first line
onto_all : List ℕ → List (List ℕ) → List (List ℕ)
onto_all [] ls = ls
onto_all (c ∷ s) ls = onto c (onto_all s ls)

run-one : (c : ℕ) (t : List ℕ) → eqb c (code "\n") ≡ false → lines_of (c ∷ code "\n" ∷ t) ≡ onto_all (without_cr (c ∷ [])) (behind_lf t)
unfolding without_cr onto_all
run-one c t e = cases (eqb c (code "\r"))
    (λ f. rw f (lines-cr c (code "\n" ∷ t) f refl ∙ lines-lf t))
    (λ f. rw f (lines-octet c (code "\n" ∷ t) e (rw f) ∙ ap (onto c) (lines-lf t)))

-- a run of octets up to an LF
run-lf : (f t : List ℕ) → Free (code "\n") f → lines_of (f ++ code "\n" ∷ t) ≡ onto_all (without_cr f) (behind_lf t)
unfolding without_cr onto_all
run-lf [] t n = lines-lf t
run-lf (c ∷ []) t n = run-one c t n.0
run-lf (c ∷ d ∷ f) t n = lines-octet c (d ∷ f ++ code "\n" ∷ t) n.0 (rw n.1.0 (and-false-right (eqb c (code "\r")))) ∙ ap (onto c) (run-lf (d ∷ f) t n.1)

-- a run of octets up to the end of the text
not-lf : (s : List ℕ) → Free (code "\n") s → eqb (get_or s 0 0) (code "\n") ≡ false
not-lf [] n = refl
not-lf (c ∷ s) n = n.0

run_end : (s : List ℕ) → Free (code "\n") s → lines_of s ≡ onto_all s []
unfolding onto_all
run_end [] n = lines_none
run_end (c ∷ s) n = lines-octet c s n.0 (rw (not-lf s n.1) (and-false-right (eqb c (code "\r")))) ∙ ap (onto c) (run_end s n.1)

-- the lines laid out, where the line before them is begun or not: one that is begun is ended at the end of the text
unfoldable pub laid_from : Bool → List (List ℕ) → List ℕ
laid_from true [] = code "\n" ∷ []
laid_from false [] = []
laid_from b (l ∷ ls) = laid_out (l ∷ ls)

pub laid-fresh : (ls : List (List ℕ)) → laid_from false ls ≡ laid_out ls
unfolding laid_from laid_out
laid-fresh [] = refl
laid-fresh (l ∷ ls) = refl

laid_one : (b : Bool) (c : ℕ) (ls : List (List ℕ)) → laid_from b (onto c ls) ≡ c ∷ laid_from true ls
unfolding laid_from laid_out onto
laid_one b c [] = refl
laid_one b c (l ∷ ls) = refl

laid-all : (b : Bool) (xs : List ℕ) (ls : List (List ℕ)) → laid_from b (onto_all xs ls) ≡ xs ++ laid_from (b or filled xs) ls
unfolding onto_all filled
laid-all b [] ls = rw (or-false-right b)
laid-all b (x ∷ xs) ls = rw (or_true_right b) (laid_one b x (onto_all xs ls) ∙ ap (λ (r : List ℕ). x ∷ r) (laid-all true xs ls))

laid-lf : (b : Bool) (ls : List (List ℕ)) → laid_from b ([] ∷ ls) ≡ code "\n" ∷ laid_from false ls
unfolding laid_from laid_out
laid-lf b [] = refl
laid-lf b (l ∷ ls) = refl

pub filled-by : (s : List ℕ) (b : Bool) → b ≡ eqb (length s) 0 → not b ≡ filled s
unfolding filled
filled-by [] b e = rw e
filled-by (c ∷ s) b e = rw (e, ne_eqb (length (c ∷ s)) 0 (λ z. omega arith))

-- without its last CR, by the last octet
without-last : (xs : List ℕ) (c : ℕ) → without_cr (xs ++ c ∷ []) ≡ xs ++ pick (eqb c (code "\r")) [] (c ∷ [])
unfolding without_cr
without-last [] c = refl
without-last (x ∷ []) c = refl
without-last (x ∷ y ∷ xs) c = ap (λ (r : List ℕ). x ∷ r) (without-last (y ∷ xs) c)

last_of : (s : List ℕ) → 1 ≤ length s → s ≡ take (length s - 1) s ++ get_or s (length s - 1) 0 ∷ []
last_of [] h = absurd (omega arith)
last_of (c ∷ s) h = by c s
  where
    by : (c : ℕ) (s : List ℕ) → c ∷ s ≡ take (length (c ∷ s) - 1) (c ∷ s) ++ get_or (c ∷ s) (length (c ∷ s) - 1) 0 ∷ []
    by c [] = refl
    by c (d ∷ s) =
        let n : length (c ∷ d ∷ s) - 1 ≡ suc (length (d ∷ s) - 1) = omega arith in
        rw n (ap (λ (r : List ℕ). c ∷ r) (by d s))

pub trim-cr : (s : List ℕ) → 1 ≤ length s → get_or s (length s - 1) 0 ≡ code "\r" → take (length s - 1) s ≡ without_cr s
trim-cr s h e = sym (ap without_cr (last_of s h) ∙ without-last (take (length s - 1) s) (get_or s (length s - 1) 0) ∙ rw e (append-nil (take (length s - 1) s)))

pub trim-not : (s : List ℕ) → (1 ≤ length s → get_or s (length s - 1) 0 ≡ code "\r" → ⊥) → s ≡ without_cr s
unfolding without_cr
trim-not [] n = refl
trim-not (c ∷ s) n = sym (ap without_cr (last_of (c ∷ s) (omega arith)) ∙ without-last (take (length (c ∷ s) - 1) (c ∷ s)) (get_or (c ∷ s) (length (c ∷ s) - 1) 0) ∙ rw (ne_eqb _ (code "\r") (n (omega arith))) (sym (last_of (c ∷ s) (omega arith))))

-- One turn: the run from i to e goes into its line. What stands behind the LF, or at the end of the text?
module _ (s : List ℕ) (b : Bool) (i e : ℕ) (q : e ≡ i + length (until is_lf (drop i s))) where
  pub turn_last : i < length s → length s ≤ e → laid_from b (lines_of (drop i s)) ≡ take (e - i) (drop i s) ++ code "\n" ∷ []
  unfolding laid_from filled
  turn_last h l =
      let w : until is_lf (drop i s) ≡ drop i s = scan-whole is_lf s i e q l in
      let f : filled (drop i s) ≡ true = rw (here s i h) in
      rw (scan-is is_lf s i e q, w) (ap (laid_from b) (run_end (drop i s) (rw w at (until-free is_lf (drop i s)))) ∙ laid-all b (drop i s) [] ∙ rw (f, or_true_right b))

  -- the run's octets in front of what an LF makes
  run_on : e < length s → laid_from b (lines_of (drop i s))
      ≡ without_cr (take (e - i) (drop i s)) ++ laid_from (b or filled (without_cr (take (e - i) (drop i s)))) (behind_lf (drop (e + 1) s))
  run_on l =
      let c : get_or s e 0 ≡ code "\n" = eqb-true (get_or s e 0) (code "\n") (scan-stop is_lf s i e q l) in
      ap (λ r. laid_from b (lines_of r)) (scan-split is_lf s i e q l)
      ∙ rw (c, run-lf (until is_lf (drop i s)) (drop (e + 1) s) (until-free is_lf (drop i s)), ← scan-is is_lf s i e q) (laid-all b _ _)

  module _ (run : List ℕ) (t : run ≡ without_cr (take (e - i) (drop i s))) (l : e < length s) where
    pub turn-fold : is_blank (get_or s (e + 1) 0) ≡ true → laid_from b (lines_of (drop i s)) ≡ run ++ laid_from (b or filled run) (lines_of (drop (e + 2) s))
    turn-fold f =
        let n : e + 1 + 1 ≡ e + 2 = omega arith in
        let d : drop 1 (drop (e + 1) s) ≡ drop (e + 2) s = drop-drop 1 (e + 1) s ∙ rw n in
        run_on l ∙ rw (t, first_of s (e + 1), f, d)

    pub turn_end : is_blank (get_or s (e + 1) 0) ≡ false → laid_from b (lines_of (drop i s)) ≡ (run ++ code "\n" ∷ []) ++ laid_from false (lines_of (drop (e + 1) s))
    turn_end f = run_on l ∙ rw (t, append_assoc, first_of s (e + 1), f, laid-lf)

pub turn-none : (s : List ℕ) (b : Bool) (i : ℕ) → length s ≤ i → laid_from b (lines_of (drop i s)) ≡ pick b (code "\n" ∷ []) []
unfolding laid_from
turn-none s true i h = rw (ended s i h, lines_none)
turn-none s false i h = rw (ended s i h, lines_none)

-- no LF in a line of a text
pub lines-free : (s : List ℕ) → All (Free (code "\n")) (lines_of s)
unfolding lines_of
lines-free s = cut-free (unfolded_from 0 (newlines s))

-- the lines laid out are at most an octet longer than the text
short : (b : Bool) (s : List ℕ) → length (laid_from b (cut_lines s)) ≤ length s + 1
unfolding cut_lines cut laid_from
short true [] = omega arith
short false [] = omega arith
short b (c ∷ s) = cases (eqb c (code "\n"))
    (λ e. rw (e, laid-lf b (cut_lines s)) (omega (arith, short false s)))
    (λ e. rw (e, laid_one b c (cut_lines s)) (omega (arith, short true s)))

pub laid-short : (s : List ℕ) → length (laid_out (lines_of s)) ≤ length s + 1
unfolding lines_of
laid-short s = rw (← laid-fresh (cut_lines (unfolded_from 0 (newlines s)))) (omega (arith, short false (unfolded_from 0 (newlines s)), lines-short s))

-- where the octets of a line end that run from i to the LF at e
abbrev pub trim_to : List ℕ → ℕ → ℕ → ℕ
trim_to s i e = pick (ltb i e and eqb (get_or s (e - 1) 0) (code "\r")) (e - 1) e

module _ (s : List ℕ) (i e : ℕ) (h : i ≤ e) (l : e ≤ length s) where
  trim-low : i ≤ trim_to s i e
  trim-low = cases (ltb i e)
      (λ g. rw g (cases (eqb (get_or s (e - 1) 0) (code "\r")) (λ c. rw c (omega (arith, ltb-true i e g))) (λ c. rw c h)))
      (λ g. rw g h)

  trim-high : trim_to s i e ≤ e
  trim-high = cases (ltb i e)
      (λ g. rw g (cases (eqb (get_or s (e - 1) 0) (code "\r")) (λ c. rw c (omega arith)) (λ c. rw c (omega arith))))
      (λ g. rw g (omega arith))

  pub trim-within : (k : ℕ) → k ≡ trim_to s i e → (i ≤ k) × (k ≤ e)
  trim-within k t = (rw t trim-low, rw t trim-high)

-- a part from i to k is filled where i is below k
part_filled : (s : List ℕ) (i k : ℕ) → i ≤ k → k ≤ length s → filled (take (k - i) (drop i s)) ≡ ltb i k
unfolding filled
part_filled s i k h l = cases (ltb i k)
    (λ g. rw g (some (take (k - i) (drop i s)) (rw (part_length s i k h l) (omega (arith, ltb-true i k g)))))
    (λ g. let n : k - i ≡ 0 = omega (arith, ltb-false i k g) in rw (g, n))
  where
    some : (t : List ℕ) → 0 < length t → filled t ≡ true
    some [] g = absurd (omega arith)
    some (c ∷ t) g = refl
