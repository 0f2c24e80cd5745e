-- What the folding pen writes: a pen with the column of its next octet.
use Rattle.std.specs.Prelude.{ℕ, ◌≡◌, Bool, true, false, List}
use Rattle.octets.specs.Classes.{upper_octet, upper}
use Rattle.octets.specs.Pen.{Pen, pen, Wrote}
use Rattle.content.specs.Fold.{fold_from, column_after}
use Rattle.content.specs.declared.fold.Folder.{Folder}

pub record FoldPen : Type 0 where
  pub pen : Pen
  pub column : ℕ

-- a folder in its buffer
abbrev pub folding : List ℕ → Folder → FoldPen
folding b f = record { pen = pen b f.at; column = f.column }

-- q is p with xs written, folded
pub record Folded (p : FoldPen) (xs : List ℕ) (q : FoldPen) : Type 0 where
  pub wrote : Wrote p.pen (fold_from p.column xs) q.pen
  pub column : q.column ≡ column_after p.column xs

-- in uppercase, or as it is
abbrev pub cased_octet : Bool → ℕ → ℕ
cased_octet true c = upper_octet c
cased_octet false c = c

abbrev pub cased : Bool → List ℕ → List ℕ
cased true s = upper s
cased false s = s
