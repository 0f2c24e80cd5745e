-- The physical lines of a text that is written: each is clean, so that no character is cut, and has at most 75 octets before CRLF.
use Prim.Native.Nat.{ℕ, suc, ◌+◌, ◌≤◌, ◌<◌}
use Prim.Native.Char.{code}
use mathlib.Core.Path.{◌≡◌, refl, sym, ap, ◌∙◌}
use mathlib.Core.Bool.{true, false}
use mathlib.Core.List.{List, [], ◌∷◌, ◌++◌, append_assoc}
use native.Mathlib.Nat.{add-zero}
use native.Mathlib.Omega.{arith}
use borrow.Author.Tests.{lt-ltb, le-ltb, ltb-false, leb-true, leb-false, eqb-true}
use lib.Dec.{eqb, leb, ltb}
use lib.ListN.{length}
use Rattle.octets.specs.Basics.{octets, pick, all, All}
use Rattle.octets.specs.Limits.{most_columns}
use Rattle.octets.specs.Classes.{is_control, plain_octet, between}
use Rattle.octets.specs.Utf8.{Due, start, one, two, three, after_e0, after_ed, after_f0, after_f4, broken, lead, due, due_after, utf8, clean}
use Rattle.octets.proofs.Cases.{cases, both, and-true, All-append}
use Rattle.octets.proofs.Classes.{between-true}
use Rattle.octets.proofs.Limits.{most-columns}
use Rattle.octets.proofs.Utf8.{broken-stays, broken-start, utf8-start, start-utf8}
use Rattle.content.specs.Fold.{width, breaks, folded_octet, next_column, fold_from, text_of}
use Rattle.content.specs.Physical.{ended_text, PhysicalLine, Physical}
use Rattle.content.proofs.Folding.{width-most, breaks-never, onward}

-- the rest of the physical line at `col`, and those that follow it
physical_from : ℕ → List ℕ → List ℕ × List (List ℕ)
physical_from col [] = ([], [])
physical_from col (c ∷ s) =
    let r = physical_from (next_column col c) s in
    pick (breaks col c) ([], (code " " ∷ c ∷ r.0) ∷ r.1) (c ∷ r.0, r.1)

physical-text : (col : ℕ) (s rest : List ℕ) → fold_from col s ++ (octets "\r\n" ++ rest) ≡ ended_text ((physical_from col s).0 ∷ (physical_from col s).1) ++ rest
unfolding fold_from physical_from ended_text folded_octet
physical-text col [] rest = refl
physical-text col (c ∷ s) rest =
    append_assoc (folded_octet col c) (fold_from (next_column col c) s) (octets "\r\n" ++ rest)
    ∙ ap (λ l. folded_octet col c ++ l) (physical-text (next_column col c) s rest)
    ∙ cases (breaks col c) (λ e. rw e) (λ e. rw e)

-- the octets of its character that are still due
left : Due → ℕ
left start = 0
left one = 1
left two = 2
left three = 3
left after_e0 = 2
left after_ed = 2
left after_f0 = 3
left after_f4 = 3
left broken = 0

-- an octet begins a character, or is one of those due; or the text is broken
data DueStep (d : Due) (c : ℕ) : Type 0 where
  lost : due d c ≡ broken → DueStep d c
  first : d ≡ start → suc (left (due d c)) ≡ width c → DueStep d c
  more : width c ≡ 0 → suc (left (due d c)) ≡ left d → DueStep d c

module _ (c : ℕ) where
  width_one : c < 128 → width c ≡ 1
  unfolding width
  width_one h = rw (lt-ltb c 128 h)

  width-none : 128 ≤ c → c < 192 → width c ≡ 0
  unfolding width
  width-none h k = rw (le-ltb c 128 h, lt-ltb c 192 k)

  width_two : 192 ≤ c → c < 224 → width c ≡ 2
  unfolding width
  width_two h k = rw (le-ltb c 128 (omega arith), le-ltb c 192 h, lt-ltb c 224 k)

  width_three : 224 ≤ c → c < 240 → width c ≡ 3
  unfolding width
  width_three h k = rw (le-ltb c 128 (omega arith), le-ltb c 192 (omega arith), le-ltb c 224 h, lt-ltb c 240 k)

  width_four : 240 ≤ c → width c ≡ 4
  unfolding width
  width_four h = rw (le-ltb c 128 (omega arith), le-ltb c 192 (omega arith), le-ltb c 224 (omega arith), le-ltb c 240 h)

  -- the first octet of a character
  lead-step : DueStep start c
  unfolding due lead left
  lead-step =
      cases (leb c 127) (λ e. first refl (rw e (sym (width_one (omega (arith, leb-true c 127 e)))))) λ n₁.
      cases (leb c 193) (λ e. lost (rw (n₁, e))) λ n₂.
      let h₂ = leb-false c 193 n₂ in
      cases (leb c 223) (λ e. first refl (rw (n₁, n₂, e) (sym (width_two (omega arith) (omega (arith, leb-true c 223 e)))))) λ n₃.
      let h₃ = leb-false c 223 n₃ in
      cases (eqb c 224) (λ e. first refl (rw (n₁, n₂, n₃, e) (sym (width_three (omega arith) (omega (arith, eqb-true c 224 e)))))) λ n₄.
      cases (eqb c 237) (λ e. first refl (rw (n₁, n₂, n₃, n₄, e) (sym (width_three (omega arith) (omega (arith, eqb-true c 237 e)))))) λ n₅.
      cases (leb c 239) (λ e. first refl (rw (n₁, n₂, n₃, n₄, n₅, e) (sym (width_three (omega arith) (omega (arith, leb-true c 239 e)))))) λ n₆.
      let h₆ = leb-false c 239 n₆ in
      cases (eqb c 240) (λ e. first refl (rw (n₁, n₂, n₃, n₄, n₅, n₆, e) (sym (width_four (omega arith))))) λ n₇.
      cases (leb c 243) (λ e. first refl (rw (n₁, n₂, n₃, n₄, n₅, n₆, n₇, e) (sym (width_four (omega arith))))) λ n₈.
      cases (eqb c 244) (λ e. first refl (rw (n₁, n₂, n₃, n₄, n₅, n₆, n₇, n₈, e) (sym (width_four (omega arith))))) λ n₉.
      lost (rw (n₁, n₂, n₃, n₄, n₅, n₆, n₇, n₈, n₉))

  -- another one
  within : (lo hi : ℕ) → 128 ≤ lo → hi < 192 → between lo hi c ≡ true → width c ≡ 0
  within lo hi h k e = let b = between-true lo hi c e in width-none (omega arith) (omega arith)

  step : (d : Due) → DueStep d c
  unfolding due left
  step start = lead-step
  step one = cases (between 128 191 c) (λ e. more (within 128 191 (omega arith) (omega arith) e) (rw e)) (λ e. lost (rw e))
  step two = cases (between 128 191 c) (λ e. more (within 128 191 (omega arith) (omega arith) e) (rw e)) (λ e. lost (rw e))
  step three = cases (between 128 191 c) (λ e. more (within 128 191 (omega arith) (omega arith) e) (rw e)) (λ e. lost (rw e))
  step after_e0 = cases (between 160 191 c) (λ e. more (within 160 191 (omega arith) (omega arith) e) (rw e)) (λ e. lost (rw e))
  step after_ed = cases (between 128 159 c) (λ e. more (within 128 159 (omega arith) (omega arith) e) (rw e)) (λ e. lost (rw e))
  step after_f0 = cases (between 144 191 c) (λ e. more (within 144 191 (omega arith) (omega arith) e) (rw e)) (λ e. lost (rw e))
  step after_f4 = cases (between 128 143 c) (λ e. more (within 128 143 (omega arith) (omega arith) e) (rw e)) (λ e. lost (rw e))
  step broken = lost refl

-- the rest of the physical line at `col`, where d is due: it fits, and ends at the end of a character
record Fine (col : ℕ) (d : Due) (r : List ℕ × List (List ℕ)) : Type 0 where
  short : col + length r.0 ≤ most_columns
  ends : due_after d r.0 ≡ start
  plain : all plain_octet r.0 ≡ true
  others : All PhysicalLine r.1

fine-none : (col : ℕ) → col ≤ most_columns → Fine col start ([], [])
unfolding due_after all
fine-none col h = record { short = rw (add-zero col) h; ends = refl; plain = refl; others = tt }

fine-octet : (col c : ℕ) (d : Due) (r : List ℕ × List (List ℕ)) → plain_octet c ≡ true → Fine (suc col) (due d c) r → Fine col d (c ∷ r.0, r.1)
unfolding due_after all
fine-octet col c d r p f = record { short = omega (arith, f.short); ends = f.ends; plain = and-true p f.plain; others = f.others }

-- behind a fold
fine-line : (c : ℕ) (r : List ℕ × List (List ℕ)) → plain_octet c ≡ true → Fine 2 (due start c) r → PhysicalLine (code " " ∷ c ∷ r.0)
fine-line c r p f = record { short = omega (arith, f.short); whole = unfold clean all plain_octet is_control in and-true utf (and-true p f.plain) }
  where
    utf : utf8 (code " " ∷ c ∷ r.0) ≡ true
    utf = start-utf8 (code " " ∷ c ∷ r.0) (unfold due_after due lead in f.ends)

fine-fold : (col c : ℕ) (r : List ℕ × List (List ℕ)) → col ≤ most_columns → plain_octet c ≡ true → Fine 2 (due start c) r → Fine col start ([], (code " " ∷ c ∷ r.0) ∷ r.1)
unfolding due_after all
fine-fold col c r h p f = record { short = rw (add-zero col) h; ends = refl; plain = refl; others = (fine-line c r p f, f.others) }

-- one octet of the line
module _ (col c : ℕ) (d : Due) (s : List ℕ) (h : col + left d ≤ most_columns) (p : plain_octet c ≡ true) (e : due_after (due d c) s ≡ start)
    (rest : (to : ℕ) → to + left (due d c) ≤ most_columns → Fine to (due d c) (physical_from to s)) where
  unfolded : breaks col c ≡ false → suc col + left (due d c) ≤ most_columns → Fine col d (physical_from col (c ∷ s))
  unfolding physical_from
  unfolded b k = rw (b, onward col c b (omega arith)) (fine-octet col c d (physical_from (suc col) s) p (rest (suc col) k))

  folded : d ≡ start → breaks col c ≡ true → suc (left (due d c)) ≡ width c → Fine col d (physical_from col (c ∷ s))
  unfolding physical_from next_column
  folded q b w =
      let m = most-columns in
      let r : Fine 2 (due start c) (physical_from 2 s) = rw q at (rest 2 (omega (arith, width-most c))) in
      rw (b, q) (fine-fold col c (physical_from 2 s) (omega arith) p r)

  fits : breaks col c ≡ false → suc (left (due d c)) ≡ width c → suc col + left (due d c) ≤ most_columns
  unfolding breaks
  fits b w =
      let t : ltb 0 (width c) ≡ true = lt-ltb 0 (width c) (omega arith) in
      let k = ltb-false most_columns (col + width c) (rw t at b) in
      omega arith

  one-octet : Fine col d (physical_from col (c ∷ s))
  one-octet = by (step c d)
    where
      by : DueStep d c → Fine col d (physical_from col (c ∷ s))
      by (lost b) = broken-start (sym (broken-stays s) ∙ (rw b at e))
      by (first q w) = cases (breaks col c) (λ b. folded q b w) (λ b. unfolded b (fits b w))
      by (more z w) = unfolded (breaks-never col c z) (omega arith)

fine : (s : List ℕ) (col : ℕ) (d : Due) → col + left d ≤ most_columns → due_after d s ≡ start → all plain_octet s ≡ true → Fine col d (physical_from col s)
unfolding due_after all physical_from left
fine [] col d h e p = rw e (fine-none col (omega (arith, rw e at h)))
fine (c ∷ s) col d h e p =
    let b = both (plain_octet c) (all plain_octet s) p in
    one-octet col c d s h b.0 e (λ to k. fine s to (due d c) k e b.1)

ended-append : (rs ts : List (List ℕ)) → ended_text (rs ++ ts) ≡ ended_text rs ++ ended_text ts
unfolding ended_text
ended-append [] ts = refl
ended-append (r ∷ rs) ts = rw (ended-append rs ts) (sym (append_assoc r (octets "\r\n" ++ ended_text rs) (ended_text ts)))

line-physical : (l : List ℕ) → clean l ≡ true → All PhysicalLine ((physical_from 0 l).0 ∷ (physical_from 0 l).1)
line-physical l h =
    let b : (utf8 l ≡ true) × (all plain_octet l ≡ true) = unfold clean in both (utf8 l) (all plain_octet l) h in
    let f : Fine 0 start (physical_from 0 l) = fine l 0 start (unfold left in omega (arith, most-columns)) (utf8-start l b.0) b.1 in
    (record { short = omega (arith, f.short); whole = unfold clean in and-true (start-utf8 (physical_from 0 l).0 f.ends) f.plain }, f.others)

-- THE LAW: clean lines are written as physical lines
pub text-physical : (ls : List (List ℕ)) → All (λ l. clean l ≡ true) ls → Physical (text_of ls)
text-physical [] h = record { lines = []; text = unfold text_of ended_text in refl; each = tt }
text-physical (l ∷ ls) h = behind l ls h.0 (text-physical ls h.1)
  where
    behind : (l : List ℕ) (ls : List (List ℕ)) → clean l ≡ true → Physical (text_of ls) → Physical (text_of (l ∷ ls))
    behind l ls h r = record {
      lines = ((physical_from 0 l).0 ∷ (physical_from 0 l).1) ++ r.lines;
      text = unfold text_of in (physical-text 0 l (text_of ls) ∙ ap (λ t. ended_text ((physical_from 0 l).0 ∷ (physical_from 0 l).1) ++ t) r.text ∙ sym (ended-append ((physical_from 0 l).0 ∷ (physical_from 0 l).1) r.lines));
      each = All-append PhysicalLine ((physical_from 0 l).0 ∷ (physical_from 0 l).1) r.lines (line-physical l h) r.each;
    }
