-- A content line that is written is clean (number 3): UTF-8 without control characters but tab.
use Prim.Native.Nat.{ℕ}
use mathlib.Core.Path.{◌≡◌, refl, sym, ap, ◌∙◌}
use mathlib.Core.Bool.{Bool, true}
use mathlib.Core.List.{List, [], ◌∷◌}
use Rattle.octets.specs.Basics.{◌and◌, all, All}
use Rattle.octets.specs.Pieces.{joined}
use Rattle.octets.specs.Classes.{is_name, plain_octet, text_octet, upper}
use Rattle.octets.specs.Utf8.{due_after, is_start, utf8, clean}
use Rattle.octets.proofs.Cases.{both, and-true, and-true-right}
use Rattle.octets.proofs.Utf8.{ascii, printable-clean, clean-both, clean-cut}
use Rattle.content.specs.Carets.{encoded}
use Rattle.content.specs.Line.{Param}
use Rattle.content.specs.Write.{line_text}
use Rattle.content.proofs.Encoded.{encoded-utf8, encoded-plain}
use Rattle.content.proofs.Written.{Writable}
use Rattle.content.proofs.WrittenOctets.{name-printable, Has, line-has}

pub clean-none : clean [] ≡ true
unfolding clean utf8 due_after is_start all
clean-none = refl

-- pieces with a separator between them
module _ (sep : ℕ) (low : ascii sep ≡ true) (plain : plain_octet sep ≡ true) where
  pub clean-joined : (ls : List (List ℕ)) → clean (joined sep ls) ≡ all clean ls
  unfolding joined all
  clean-joined [] = clean-none
  clean-joined (l ∷ []) = sym (and-true-right (clean l))
  clean-joined (l ∷ m ∷ ls) = clean-cut l sep (joined sep (m ∷ ls)) low plain ∙ ap (λ (b : Bool). clean l and b) (clean-joined (m ∷ ls))

pub name-clean : (n : List ℕ) → is_name n ≡ true → clean (upper n) ≡ true
name-clean n h = printable-clean (upper n) (name-printable n h)

-- the values of a parameter are texts in UTF-8
pub record Texts (p : Param) : Type 0 where
  pub utf : all utf8 p.values ≡ true
  pub plain : all (all text_octet) p.values ≡ true

abbrev Clean : List ℕ → Type 0
Clean s = clean s ≡ true

values-clean : (vs : List (List ℕ)) → all utf8 vs ≡ true → all (all text_octet) vs ≡ true → All (λ v. Clean (encoded v)) vs
unfolding all clean
values-clean [] h k = tt
values-clean (v ∷ vs) h k =
    let a = both (utf8 v) (all utf8 vs) h in
    let b = both (all text_octet v) (all (all text_octet) vs) k in
    (and-true (encoded-utf8 v a.0) (encoded-plain v b.0), values-clean vs a.1 b.1)

params-clean : (ps : List Param) → All Writable ps → All Texts ps → All (Has Clean printable-clean clean-both) ps
params-clean [] w t = tt
params-clean (p ∷ ps) w t = (record { named = w.0.named; values = values-clean p.values t.0.utf t.0.plain }, params-clean ps w.1 t.1)

-- THE LAW: a written line is clean if its value is, and its parameters are texts
pub line_clean : (n : List ℕ) (ps : List Param) (v : List ℕ) → is_name n ≡ true → All Writable ps → All Texts ps → clean v ≡ true → clean (line_text n ps v) ≡ true
line_clean n ps v h w t c = line-has Clean printable-clean clean-both n ps v h (params-clean ps w t) c
