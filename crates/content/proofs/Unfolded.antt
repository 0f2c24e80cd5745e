-- What was folded is unfolded: the lines of a text that was written are the lines that it was written from.
use Prim.Native.Nat.{ℕ}
use Prim.Native.Char.{code}
use mathlib.Core.Path.{◌≡◌, refl, ap, ◌∙◌}
use mathlib.Core.Bool.{Bool, true, false}
use mathlib.Core.List.{List, [], ◌∷◌, ◌++◌, append_assoc}
use lib.Dec.{eqb}
use lib.ListN.{get_or}
use Rattle.octets.specs.Basics.{octets, all, filled, All}
use Rattle.octets.specs.Pieces.{onto}
use Rattle.octets.specs.Classes.{between, is_digit, is_upper, is_lower, is_letter, name_octet, is_name, is_control, plain_octet, upper}
use Rattle.octets.specs.Utf8.{utf8, clean}
use Rattle.octets.proofs.Cases.{cases, never, both, apart, and-false-right, or-false, All-weaker, all-All}
use Rattle.octets.proofs.Pieces.{Free}
use Rattle.content.specs.Lines.{is_blank, lines_of}
use Rattle.content.specs.Fold.{breaks, folded_octet, next_column, fold_from, text_of}
use Rattle.content.specs.Line.{Param}
use Rattle.content.specs.Write.{params_text, line_text}
use Rattle.octets.proofs.Classes.{name-upper}
use Rattle.content.proofs.LineStarts.{lines_none, lines-octet, lines-cr, lines-lf}

-- a fold and an ending where a text begins
lines-fold : (s : List ℕ) → lines_of (octets "\r\n " ++ s) ≡ lines_of s
unfolding is_blank
lines-fold s = lines-cr (code "\r") (code "\n" ∷ code " " ∷ s) refl refl ∙ lines-lf (code " " ∷ s)

lines_end : (s : List ℕ) → is_blank (get_or s 0 0) ≡ false → lines_of (octets "\r\n" ++ s) ≡ [] ∷ lines_of s
lines_end s h = lines-cr (code "\r") (code "\n" ∷ s) refl refl ∙ lines-lf s ∙ rw h

-- a folded line begins with its first octet, or with CR
module _ (p : ℕ → Bool) (return : p (code "\r") ≡ false) where
  octet-begins : (col c : ℕ) (s : List ℕ) → p c ≡ false → p (get_or (folded_octet col c ++ s) 0 0) ≡ false
  unfolding folded_octet
  octet-begins col c s h = cases (breaks col c) (λ e. rw e return) (λ e. rw e h)

  line-begins : (col : ℕ) (l s : List ℕ) → p (get_or l 0 (code "\r")) ≡ false → p (get_or (fold_from col l ++ (octets "\r\n" ++ s)) 0 0) ≡ false
  unfolding fold_from
  line-begins col [] s h = return
  line-begins col (c ∷ l) s h =
      rw (append_assoc (folded_octet col c) (fold_from (next_column col c) l) (octets "\r\n" ++ s))
      (octet-begins col c (fold_from (next_column col c) l ++ (octets "\r\n" ++ s)) h)

no-newline : (l : List ℕ) → Free (code "\n") l → eqb (get_or l 0 (code "\r")) (code "\n") ≡ false
no-newline [] h = refl
no-newline (c ∷ l) h = h.0

-- an octet of a folded line
fold-octet : (col c : ℕ) (s : List ℕ) → eqb c (code "\n") ≡ false → eqb (get_or s 0 0) (code "\n") ≡ false → lines_of (folded_octet col c ++ s) ≡ onto c (lines_of s)
unfolding folded_octet
fold-octet col c s h k = cases (breaks col c)
    (λ e. rw e (lines-fold (c ∷ s) ∙ octet))
    (λ e. rw e octet)
  where
    octet : lines_of (c ∷ s) ≡ onto c (lines_of s)
    octet = lines-octet c s h (rw k (and-false-right (eqb c (code "\r"))))

fold_line : (col : ℕ) (l s : List ℕ) → Free (code "\n") l → is_blank (get_or s 0 0) ≡ false → lines_of (fold_from col l ++ (octets "\r\n" ++ s)) ≡ l ∷ lines_of s
unfolding fold_from onto
fold_line col [] s h b = lines_end s b
fold_line col (c ∷ l) s h b =
    rw (
      append_assoc (folded_octet col c) (fold_from (next_column col c) l) (octets "\r\n" ++ s),
      fold-octet col c (fold_from (next_column col c) l ++ (octets "\r\n" ++ s)) h.0 (line-begins (λ x. eqb x (code "\n")) refl (next_column col c) l s (no-newline l h.1)),
      fold_line (next_column col c) l s h.1 b,
    )

-- what a line needs behind another one: it begins with no space or tab
abbrev pub Upright : List ℕ → Type 0
Upright l = is_blank (get_or l 0 0) ≡ false

upright-text : (ls : List (List ℕ)) → All Upright ls → is_blank (get_or (text_of ls) 0 0) ≡ false
unfolding text_of
upright-text [] h = unfold is_blank in refl
upright-text (l ∷ ls) h = line-begins is_blank (unfold is_blank in refl) 0 l (text_of ls) (begins l h.0)
  where
    begins : (l : List ℕ) → Upright l → is_blank (get_or l 0 (code "\r")) ≡ false
    begins [] h = unfold is_blank in refl
    begins (c ∷ l) h = h

-- no line has an LF, and none but the first begins with a space or tab
lines-back : (l : List ℕ) (ls : List (List ℕ)) → All (Free (code "\n")) (l ∷ ls) → All Upright ls → lines_of (text_of (l ∷ ls)) ≡ l ∷ ls
unfolding text_of
lines-back l [] f u = fold_line 0 l (text_of []) f.0 (upright-text [] tt) ∙ ap (λ r. l ∷ r) lines_none
lines-back l (m ∷ ls) f u = fold_line 0 l (text_of (m ∷ ls)) f.0 (upright-text (m ∷ ls) u) ∙ ap (λ r. l ∷ r) (lines-back m ls f.1 u.1)

-- clean lines have no LF
pub clean_free : (l : List ℕ) → clean l ≡ true → Free (code "\n") l
unfolding clean
clean_free l h = All-weaker (λ c e. apart plain_octet c (code "\n") e (unfold plain_octet is_control in refl)) l (all-All plain_octet l (both (utf8 l) (all plain_octet l) h).1)

-- THE LAW
pub clean-lines-back : (ls : List (List ℕ)) → All (λ l. clean l ≡ true) ls → All Upright ls → lines_of (text_of ls) ≡ ls
clean-lines-back [] c u = unfold text_of in lines_none
clean-lines-back (l ∷ ls) c u = lines-back l ls (All-weaker clean_free (l ∷ ls) c) u.1

-- a content line begins with an octet of its name
name-upright : (n s : List ℕ) → is_name n ≡ true → Upright (n ++ s)
unfolding is_name filled all is_blank
name-upright [] s h = never h refl
name-upright (c ∷ n) s h =
    let b = both (name_octet c) (all name_octet n) h in
    or-false (apart name_octet c (code " ") b.0 (unfold name_octet is_letter is_upper is_lower is_digit between in refl)) (apart name_octet c (code "\t") b.0 (unfold name_octet is_letter is_upper is_lower is_digit between in refl))

pub line-upright : (n : List ℕ) (ps : List Param) (v : List ℕ) → is_name n ≡ true → Upright (line_text n ps v)
unfolding line_text
line-upright n ps v h = name-upright (upper n) (params_text ps ++ code ":" ∷ v) (name-upper n h)
