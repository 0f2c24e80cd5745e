-- Test 3 over a whole buffer: its lines are clean where the buffer is UTF-8 and its octets are plain or LF.
use Prim.Native.Nat.{ℕ}
use Prim.Native.Char.{code}
use mathlib.Core.Path.{◌≡◌, refl, sym, ap, ◌∙◌}
use mathlib.Core.Bool.{Bool, true}
use mathlib.Core.List.{List, [], ◌∷◌}
use Rattle.octets.specs.Basics.{◌and◌, all}
use Rattle.octets.specs.Pieces.{onto, cut}
use Rattle.octets.specs.Classes.{is_control, plain_octet, text_octet}
use Rattle.octets.specs.Utf8.{Due, start, due, due_after, is_start, utf8, clean}
use Rattle.octets.proofs.Cases.{cases, same?, or-false-right, and-true-right, and_assoc, and-swap}
use Rattle.octets.proofs.Utf8.{ascii, due-ascii, broken-stays}
use Rattle.content.specs.Lines.{cut_lines}

-- the lines are UTF-8, where d is due at the first octet
utf8_from : Due → List (List ℕ) → Bool
utf8_from d [] = is_start d
utf8_from d (l ∷ ls) = is_start (due_after d l) and all utf8 ls

from_start : (ls : List (List ℕ)) → utf8_from start ls ≡ all utf8 ls
unfolding utf8_from all utf8 is_start
from_start [] = refl
from_start (l ∷ ls) = refl

from-onto : (d : Due) (c : ℕ) (ls : List (List ℕ)) → utf8_from d (onto c ls) ≡ utf8_from (due d c) ls
unfolding utf8_from onto due_after all
from-onto d c [] = and-true-right (is_start (due d c))
from-onto d c (l ∷ ls) = refl

from-lf : (d : Due) (c : ℕ) (s : List ℕ) → ascii c ≡ true → ((e : Due) → utf8_from e (cut_lines s) ≡ is_start (due_after e s)) → utf8_from d ([] ∷ cut_lines s) ≡ is_start (due_after (due d c) s)
unfolding utf8_from due_after
from-lf d c s e ih = cases (is_start d)
    (λ h. rw (due-ascii d c e, h) (sym (from_start (cut_lines s)) ∙ ih start))
    (λ h. rw (due-ascii d c e, h, broken-stays s) (unfold is_start in refl))

utf8-from : (d : Due) (s : List ℕ) → utf8_from d (cut_lines s) ≡ is_start (due_after d s)
unfolding cut_lines cut due_after
utf8-from d [] = unfold utf8_from in refl
utf8-from d (c ∷ s) = same? c (code "\n")
    (λ e. rw e (from-lf d (code "\n") s (unfold ascii in refl) (λ f. utf8-from f s)))
    (λ n. rw n (from-onto d c (cut_lines s) ∙ utf8-from (due d c) s))

plain-onto : (c : ℕ) (ls : List (List ℕ)) → all (all plain_octet) (onto c ls) ≡ (plain_octet c and all (all plain_octet) ls)
unfolding all onto
plain-onto c [] = and-true-right (plain_octet c and true)
plain-onto c (l ∷ ls) = and_assoc (plain_octet c) (all plain_octet l) (all (all plain_octet) ls)

plain_lines : (s : List ℕ) → all (all plain_octet) (cut_lines s) ≡ all text_octet s
unfolding cut_lines cut all text_octet plain_octet is_control
plain_lines [] = refl
plain_lines (c ∷ s) = same? c (code "\n")
    (λ e. rw e (plain_lines s))
    (λ n. rw (n, or-false-right (plain_octet c)) (plain-onto c (cut_lines s) ∙ ap (λ (b : Bool). plain_octet c and b) (plain_lines s)))

clean-parts : (ls : List (List ℕ)) → all clean ls ≡ (all utf8 ls and all (all plain_octet) ls)
unfolding all clean
clean-parts [] = refl
clean-parts (l ∷ ls) = rw (clean-parts ls) (sym (and-swap (utf8 l) (all utf8 ls) (all plain_octet l) (all (all plain_octet) ls)))

pub clean-lines : (s : List ℕ) → all clean (cut_lines s) ≡ (utf8 s and all text_octet s)
unfolding utf8
clean-lines s = clean-parts (cut_lines s) ∙ rw (plain_lines s, ← from_start (cut_lines s), utf8-from start s)
