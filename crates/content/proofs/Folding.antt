-- The laws of the folding pen: two writes are one, where no line is broken, and what a loop has left to write.
use Prim.Native.Nat.{ℕ, suc, ◌+◌, ◌-◌, min, ◌≤◌}
use mathlib.Core.Path.{◌≡◌, refl, sym, ap, ◌∙◌}
use mathlib.Core.Bool.{Bool, true, false}
use mathlib.Core.List.{List, [], ◌∷◌, ◌++◌, append_assoc, map-append}
use native.Mathlib.Nat.{add-zero, min-eq_left}
use native.Mathlib.Omega.{arith}
use borrow.Author.Tests.{lt-ltb, le-ltb, ltb-true, ltb-false}
use lib.Dec.{ltb}
use lib.ListN.{length}
use Rattle.octets.specs.Basics.{octets}
use Rattle.octets.specs.Classes.{upper_octet, upper}
use Rattle.octets.specs.Limits.{most_columns}
use Rattle.octets.specs.Pen.{Pen, wrote, Wrote}
use Rattle.octets.proofs.Cases.{cases, and-false-right}
use Rattle.octets.proofs.Classes.{map-length}
use Rattle.octets.proofs.Limits.{most-columns}
use Rattle.octets.proofs.Pen.{nothing, then as Wrote-then, wrote-append, as-text}
use Rattle.content.specs.Fold.{width, breaks, folded_octet, next_column, fold_from, column_after, text_of}
use Rattle.content.specs.Folding.{FoldPen, Folded, cased_octet, cased}

pub fold-append : (col : ℕ) (xs ys : List ℕ) → fold_from col (xs ++ ys) ≡ fold_from col xs ++ fold_from (column_after col xs) ys
unfolding fold_from column_after
fold-append col [] ys = refl
fold-append col (x ∷ xs) ys = rw (fold-append (next_column col x) xs ys) (sym (append_assoc (folded_octet col x) (fold_from (next_column col x) xs) (fold_from (column_after (next_column col x) xs) ys)))

pub column-append : (col : ℕ) (xs ys : List ℕ) → column_after col (xs ++ ys) ≡ column_after (column_after col xs) ys
unfolding column_after
column-append col [] ys = refl
column-append col (x ∷ xs) ys = column-append (next_column col x) xs ys

pub none : {p : FoldPen} → Folded p [] p
unfolding fold_from column_after
none = record { wrote = nothing; column = refl }

pub then : {p q r : FoldPen} {xs ys : List ℕ} → Folded p xs q → Folded q ys r → Folded p (xs ++ ys) r
then {p} {q} {r} {xs} {ys} a b = record {
  wrote = rw (fold-append p.column xs ys) (Wrote-then a.wrote (rw a.column at b.wrote));
  column = b.column ∙ rw a.column (sym (column-append p.column xs ys));
}

-- the same text under another name
pub as-folded : {p q : FoldPen} {xs ys : List ℕ} → Folded p xs q → xs ≡ ys → Folded p ys q
as-folded w e = rw (← e) w

-- a character has at most four octets
pub width-most : (c : ℕ) → width c ≤ 4
unfolding width
width-most c = cases (ltb c 128) (λ e. rw e (omega arith)) λ n₁.
    cases (ltb c 192) (λ e. rw (n₁, e) (omega arith)) λ n₂.
    cases (ltb c 224) (λ e. rw (n₁, n₂, e) (omega arith)) λ n₃.
    cases (ltb c 240) (λ e. rw (n₁, n₂, n₃, e) (omega arith)) λ n₄. rw (n₁, n₂, n₃, n₄) (omega arith)

-- where any character ends in its line, none is folded
safe : (col c : ℕ) → col + 4 ≤ most_columns → breaks col c ≡ false
unfolding breaks
safe col c h = rw (le-ltb most_columns (col + width c) (omega (arith, width-most c))) (and-false-right (ltb 0 (width c)))

-- the test as the code makes it
pub breaks-never : (col c : ℕ) → width c ≡ 0 → breaks col c ≡ false
unfolding breaks
breaks-never col c e = rw e

pub breaks-by : (m n col c : ℕ) → m ≡ most_columns → n ≡ width c → (n ≡ 0 → ⊥) → ltb (m - n) col ≡ breaks col c
unfolding breaks
breaks-by m n col c e f h =
    let w = width-most c in
    let k = most-columns in
    rw (← f, ← e, lt-ltb 0 n (omega arith)) (cases (ltb (m - n) col)
    (λ t. rw t (sym (lt-ltb m (col + n) (omega (arith, ltb-true (m - n) col t)))))
    (λ t. rw t (sym (le-ltb m (col + n) (omega (arith, ltb-false (m - n) col t))))))

pub unbroken : (col c : ℕ) → breaks col c ≡ false → folded_octet col c ≡ c ∷ []
unfolding folded_octet
unbroken col c e = rw e

pub onward : (col c : ℕ) → breaks col c ≡ false → col ≤ most_columns → next_column col c ≡ suc col
unfolding next_column
onward col c e h = rw e (min-eq_left (omega arith))

-- octets that all stand in safe columns are written as they are
pub record Plain (col : ℕ) (xs : List ℕ) : Type 0 where
  pub text : fold_from col xs ≡ xs
  pub column : column_after col xs ≡ col + length xs

pub plain : (col : ℕ) (xs : List ℕ) → col + length xs + 3 ≤ most_columns → Plain col xs
unfolding fold_from column_after
plain col [] h = record { text = refl; column = sym (add-zero col) }
plain col (x ∷ xs) h =
    let s : breaks col x ≡ false = safe col x (omega arith) in
    let n : next_column col x ≡ suc col = onward col x s (omega arith) in
    let r : Plain (suc col) xs = plain (suc col) xs (omega arith) in
    record { text = rw (unbroken col x s, n, r.text); column = rw (n, r.column) (omega arith) }

-- one octet behind a fold, and one without
pub one-broken : {p q r : Pen} {col c : ℕ} → breaks col c ≡ true → Wrote p (octets "\r\n ") q → Wrote q (c ∷ []) r
    → Folded (record { pen = p; column = col }) (c ∷ []) (record { pen = r; column = 2 })
unfolding fold_from folded_octet column_after next_column
one-broken e v w = record { wrote = rw e (Wrote-then v w); column = rw e }

pub one_plain : {p q : Pen} {col to c : ℕ} → breaks col c ≡ false → to ≡ min (suc col) (suc most_columns) → Wrote p (c ∷ []) q
    → Folded (record { pen = p; column = col }) (c ∷ []) (record { pen = q; column = to })
unfolding fold_from folded_octet column_after next_column
one_plain e m w = record { wrote = rw e w; column = rw e m }

-- a run in safe columns
pub run-plain : {p q : Pen} {col : ℕ} {xs : List ℕ} → col + length xs + 3 ≤ most_columns → Wrote p xs q
    → Folded (record { pen = p; column = col }) xs (record { pen = q; column = col + length xs })
run-plain {p} {q} {col} {xs} h w = let k = plain col xs h in record { wrote = as-text w (sym k.text); column = sym k.column }

-- the same in uppercase
pub run-upper : {p q : Pen} {col : ℕ} (xs : List ℕ) → col + length xs + 3 ≤ most_columns → Wrote p (upper xs) q
    → Folded (record { pen = p; column = col }) (upper xs) (record { pen = q; column = col + length xs })
run-upper {col} xs h w =
    let e : length (upper xs) ≡ length xs = unfold upper in map-length upper_octet xs in
    rw e at (run-plain {col = col} {xs = upper xs} (rw e h) w)

-- in uppercase, or as it is
pub cased-append : (u : Bool) (xs ys : List ℕ) → cased u (xs ++ ys) ≡ cased u xs ++ cased u ys
unfolding upper
cased-append true xs ys = map-append upper_octet xs ys
cased-append false xs ys = refl

pub cased-one : (u : Bool) (x : ℕ) (xs : List ℕ) → cased u (x ∷ xs) ≡ cased_octet u x ∷ cased u xs
unfolding upper
cased-one true x xs = refl
cased-one false x xs = refl

pub cased-none : (u : Bool) → cased u [] ≡ []
unfolding upper
cased-none true = refl
cased-none false = refl

-- for loops: to write `rest` from q on is to write `all` from p on
pub record Leads (p : FoldPen) (all : List ℕ) (q : FoldPen) (rest : List ℕ) : Type 0 where
  pub text : wrote q.pen (fold_from q.column rest) ≡ wrote p.pen (fold_from p.column all)
  pub column : column_after q.column rest ≡ column_after p.column all

pub leads-start : {p : FoldPen} {all : List ℕ} → Leads p all p all
leads-start = record { text = refl; column = refl }

-- the loop begins behind what is written already
pub leads-behind : {p q : FoldPen} {xs rest : List ℕ} → Folded p xs q → Leads p (xs ++ rest) q rest
leads-behind {p} {q} {xs} {rest} w = record {
  text = rw (w.wrote.is, w.column, fold-append p.column xs rest) (sym (wrote-append p.pen (fold_from p.column xs) (fold_from (column_after p.column xs) rest)));
  column = rw w.column (sym (column-append p.column xs rest));
}

-- a turn writes xs, and ys is left
pub leads-on : {p q r : FoldPen} {all rest xs ys : List ℕ} → Leads p all q rest → Folded q xs r → rest ≡ xs ++ ys → Leads p all r ys
leads-on {p} {q} {r} {all} {rest} {xs} {ys} k w e =
    let b = leads-behind {rest = ys} w in
    record { text = b.text ∙ ap (λ l. wrote q.pen (fold_from q.column l)) (sym e) ∙ k.text; column = b.column ∙ ap (column_after q.column) (sym e) ∙ k.column }

-- nothing is left
pub leads-end : {p q : FoldPen} {all rest : List ℕ} → Leads p all q rest → rest ≡ [] → Folded p all q
leads-end {p} {q} {all} {rest} k e = record {
  wrote = record { is = unfold fold_from wrote in (rw e at k.text) };
  column = unfold column_after in (rw e at k.column);
}

-- the last part is written
pub leads-last : {p q r : FoldPen} {all rest xs : List ℕ} → Leads p all q rest → Folded q xs r → rest ≡ xs → Folded p all r
leads-last {p} {q} {r} {all} {rest} {xs} k w e = record {
  wrote = record { is = w.wrote.is ∙ ap (λ l. wrote q.pen (fold_from q.column l)) (sym e) ∙ k.text };
  column = w.column ∙ ap (column_after q.column) (sym e) ∙ k.column;
}

-- lines

pub text-append : (ls ms : List (List ℕ)) → text_of (ls ++ ms) ≡ text_of ls ++ text_of ms
unfolding text_of
text-append [] ms = refl
text-append (l ∷ ls) ms = rw (text-append ls ms, append_assoc)

pub lines_then : {p q r : Pen} (ls ms : List (List ℕ)) → Wrote p (text_of ls) q → Wrote q (text_of ms) r → Wrote p (text_of (ls ++ ms)) r
lines_then ls ms v w = as-text (Wrote-then v w) (sym (text-append ls ms))

-- a line from column 0 on, and its ending
pub line-ended : {p : Pen} {q : FoldPen} {r : Pen} {l : List ℕ} → Folded (record { pen = p; column = 0 }) l q → Wrote q.pen (octets "\r\n") r → Wrote p (text_of (l ∷ [])) r
unfolding text_of
line-ended w e = Wrote-then w.wrote e
