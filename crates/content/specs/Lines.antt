-- The lines of a text (01, Lines; RFC 5545 3.1): CR LF becomes LF, folds are removed, and what is left is cut at LF.
use Rattle.std.specs.Prelude.{ℕ, Bool, List, [], ◌∷◌, ◌++◌, eqb, get_or}
use Prim.Native.Char.{code}
use Rattle.octets.specs.Basics.{pick, ◌and◌, ◌or◌}
use Rattle.octets.specs.Pieces.{cut}

-- CR LF becomes LF: a CR that an LF follows is left out
unfoldable pub newlines : List ℕ → List ℕ
newlines [] = []
newlines (c ∷ s) = pick (eqb c (code "\r") and eqb (get_or s 0 0) (code "\n")) [] (c ∷ []) ++ newlines s

unfoldable pub is_blank : ℕ → Bool
is_blank c = eqb c (code " ") or eqb c (code "\t")

-- c is of a fold, where p stands before it and n behind it: an LF before a space or tab, or that space or tab
unfoldable pub folds : ℕ → ℕ → ℕ → Bool
folds p c n = (eqb c (code "\n") and is_blank n) or (eqb p (code "\n") and is_blank c)

-- without the folds; p stands before the text
unfoldable pub unfolded_from : ℕ → List ℕ → List ℕ
unfolded_from p [] = []
unfolded_from p (c ∷ s) = pick (folds p c (get_or s 0 0)) [] (c ∷ []) ++ unfolded_from c s

abbrev pub is_lf : ℕ → Bool
is_lf c = eqb c (code "\n")

-- without a last CR
unfoldable pub without_cr : List ℕ → List ℕ
without_cr [] = []
without_cr (c ∷ []) = pick (eqb c (code "\r")) [] (c ∷ [])
without_cr (c ∷ d ∷ s) = c ∷ without_cr (d ∷ s)

-- cut at LF; a last line without an ending counts if it has octets
unfoldable pub cut_lines : List ℕ → List (List ℕ)
cut_lines [] = []
cut_lines (c ∷ s) = cut (is_lf c) c (cut_lines s)

-- nothing stands before a text
unfoldable pub lines_of : List ℕ → List (List ℕ)
lines_of s = cut_lines (unfolded_from 0 (newlines s))
