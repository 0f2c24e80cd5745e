-- The lines of a text by what it begins with: an octet, an ending, a fold.
use Prim.Native.Nat.{ℕ, suc, ◌≤◌}
use Prim.Native.Char.{code}
use mathlib.Core.Path.{◌≡◌, refl, sym, ap, ◌∙◌}
use mathlib.Core.Bool.{Bool, true, false}
use mathlib.Core.List.{List, [], ◌∷◌, ◌++◌}
use native.Mathlib.Omega.{arith}
use borrow.Author.Tests.{eqb-true}
use lib.Dec.{eqb}
use lib.ListN.{length, get_or, drop}
use Rattle.octets.specs.Basics.{pick, ◌and◌}
use Rattle.octets.specs.Pieces.{onto, cut}
use Rattle.octets.proofs.Cases.{cases, never, both, apart, or-false-right}
use Rattle.content.specs.Lines.{newlines, is_blank, folds, unfolded_from, cut_lines, lines_of}

-- an LF before a text matters only where a blank begins it
behind-any : (p : ℕ) (s : List ℕ) → (eqb p (code "\n") and is_blank (get_or s 0 0)) ≡ false → unfolded_from p s ≡ unfolded_from 0 s
unfolding unfolded_from folds
behind-any p [] h = refl
behind-any p (c ∷ s) h = rw h

pub lines_none : lines_of [] ≡ []
unfolding lines_of newlines unfolded_from cut_lines
lines_none = refl

pub lines-octet : (c : ℕ) (s : List ℕ) → eqb c (code "\n") ≡ false → (eqb c (code "\r") and eqb (get_or s 0 0) (code "\n")) ≡ false → lines_of (c ∷ s) ≡ onto c (lines_of s)
unfolding lines_of newlines unfolded_from folds cut_lines cut
lines-octet c s n e = rw (e, n, n, behind-any c (newlines s) (rw n))

-- a CR before an LF
pub lines-cr : (c : ℕ) (s : List ℕ) → eqb c (code "\r") ≡ true → eqb (get_or s 0 0) (code "\n") ≡ true → lines_of (c ∷ s) ≡ lines_of s
unfolding lines_of newlines
lines-cr c s e f = rw (e, f)

not-blank : (c k : ℕ) → is_blank k ≡ false → eqb c k ≡ true → is_blank c ≡ false
not-blank c k b e = rw (eqb-true c k e) b

blank-newlines : (s : List ℕ) → is_blank (get_or (newlines s) 0 0) ≡ is_blank (get_or s 0 0)
unfolding newlines
blank-newlines [] = refl
blank-newlines (c ∷ s) = cases (eqb c (code "\r") and eqb (get_or s 0 0) (code "\n"))
    (λ e. let b = both (eqb c (code "\r")) (eqb (get_or s 0 0) (code "\n")) e in
    rw e (blank-newlines s ∙ not-blank (get_or s 0 0) (code "\n") (unfold is_blank in refl) b.1 ∙ sym (not-blank c (code "\r") (unfold is_blank in refl) b.0)))
    (λ e. rw e)

-- a blank behind an LF
blank-gone : (s : List ℕ) → is_blank (get_or s 0 0) ≡ true → unfolded_from (code "\n") (newlines s) ≡ unfolded_from 0 (newlines (drop 1 s))
unfolding newlines unfolded_from folds
blank-gone [] b = never b (unfold is_blank in refl)
blank-gone (c ∷ s) b =
    let n = apart is_blank c (code "\n") b (unfold is_blank in refl) in
    rw (apart is_blank c (code "\r") b (unfold is_blank in refl), n, b) (behind-any c (newlines s) (rw n))

-- an LF folds where a blank follows it, and ends a line elsewhere
abbrev pub behind_lf : List ℕ → List (List ℕ)
behind_lf t = pick (is_blank (get_or t 0 0)) (lines_of (drop 1 t)) ([] ∷ lines_of t)

pub lines-lf : (t : List ℕ) → lines_of (code "\n" ∷ t) ≡ behind_lf t
unfolding lines_of newlines unfolded_from folds cut_lines cut
lines-lf t = rw (blank-newlines t, or-false-right (is_blank (get_or t 0 0))) (cases (is_blank (get_or t 0 0))
    (λ b. rw b (ap cut_lines (blank-gone t b)))
    (λ b. rw b (ap (λ s. [] ∷ cut_lines s) (behind-any (code "\n") (newlines t) (blank-newlines t ∙ b)))))

-- no octet is added
kept_by : (b : Bool) (c : ℕ) (s t : List ℕ) → length s ≤ length t → length (pick b [] (c ∷ []) ++ s) ≤ suc (length t)
kept_by true c s t h = omega arith
kept_by false c s t h = omega arith

newlines-short : (s : List ℕ) → length (newlines s) ≤ length s
unfolding newlines
newlines-short [] = omega arith
newlines-short (c ∷ s) = kept_by (eqb c (code "\r") and eqb (get_or s 0 0) (code "\n")) c (newlines s) s (newlines-short s)

unfolded-short : (p : ℕ) (s : List ℕ) → length (unfolded_from p s) ≤ length s
unfolding unfolded_from
unfolded-short p [] = omega arith
unfolded-short p (c ∷ s) = kept_by (folds p c (get_or s 0 0)) c (unfolded_from c s) s (unfolded-short c s)

pub lines-short : (s : List ℕ) → length (unfolded_from 0 (newlines s)) ≤ length s
lines-short s = omega (arith, unfolded-short 0 (newlines s), newlines-short s)
