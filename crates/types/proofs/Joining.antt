-- Rows that join the table one by one: the file's rows, where each may join those before it.
use Prim.Native.Nat.{ℕ, ◌+◌, ◌-◌, ◌≤◌, ◌<◌}
use Prim.Native.Char.{code}
use mathlib.Core.Path.{◌≡◌, refl, sym, ap, ◌∙◌}
use mathlib.Core.Bool.{Bool, true, false, not}
use mathlib.Core.List.{List, [], ◌∷◌, ◌++◌, append_assoc, append-nil}
use mathlib.Core.Option.{Option, none, some}
use native.Mathlib.Omega.{arith}
use borrow.Author.Tests.{ltb-true, ltb-false, le-leb, lt-leb, eqb-true, not-true}
use lib.Dec.{eqb, leb, ltb, leb-zero}
use lib.ListN.{length, take, drop, length-append, length-drop}
use lib.Seq.{drop-drop}
use Rattle.octets.specs.Basics.{pick, ◌or◌, any, all, filled, same, among, twice}
use Rattle.octets.specs.Pieces.{split}
use Rattle.octets.specs.Optional.{map?, both?, then?, is_some, when, guard, each}
use Rattle.octets.specs.Classes.{is_upper, is_digit, is_lower, between, upper_octet, upper}
use Rattle.octets.specs.Limits.{most_rows}
use Rattle.octets.proofs.Cases.{cases, never, both, either, and-true, and-false-right, or-first, or-second, or-false, neither, any_append}
use Rattle.octets.proofs.Classes.{between-true, below-between, filled-some, upper-octet-other}
use Rattle.octets.proofs.Pieces.{split-filled}
use Rattle.octets.proofs.Positions.{ended}
use Rattle.octets.proofs.Optional.{missing, when-is, then_is}
use Rattle.types.specs.Table.{Entry, entry, Table, names_of, find, defaults}
use Rattle.types.specs.Rows.{row_octet, is_row, frame_of, entry_of, row_of, ended_lines, rows_of, may_join}
use Rattle.types.specs.Reading.{if_unlisted}
use Rattle.types.proofs.Lines.{first_line, one_line, more-lines}
use Rattle.types.proofs.Frames.{row_told}

-- a name of a row is in uppercase
row-octet-upper : (c : ℕ) → row_octet c ≡ true → upper_octet c ≡ c
unfolding row_octet is_upper is_digit is_lower
row-octet-upper c h = upper-octet-other c
    (either (between (code "A") (code "Z") c) (between (code "0") (code "9") c or eqb c (code "-")) h
    (λ e. below-between (code "a") (code "z") c (omega (arith, (between-true (code "A") (code "Z") c e).1)))
    (λ k. either (between (code "0") (code "9") c) (eqb c (code "-")) k
    (λ e. below-between (code "a") (code "z") c (omega (arith, (between-true (code "0") (code "9") c e).1)))
    (λ e. below-between (code "a") (code "z") c (omega (arith, eqb-true c (code "-") e)))))

pub row-name-upper : (n : List ℕ) → all row_octet n ≡ true → upper n ≡ n
unfolding all upper
row-name-upper [] h = refl
row-name-upper (c ∷ n) h =
    let b = both (row_octet c) (all row_octet n) h in
    rw (row-octet-upper c b.0) (ap (λ (l : List ℕ). c ∷ l) (row-name-upper n b.1))

-- a table lists a name where one of its names is it in uppercase
pub find-names : (t : Table) (n : List ℕ) → is_some (find t n) ≡ any (λ m. same m (upper n)) (names_of t)
unfolding find is_some any names_of
find-names [] n = refl
find-names (e ∷ t) n = cases (same e.name (upper n)) (λ h. rw h) (λ h. rw h (find-names t n))

names-append : (s t : Table) → names_of (s ++ t) ≡ names_of s ++ names_of t
unfolding names_of
names-append [] t = refl
names-append (e ∷ s) t = ap (λ (ns : List (List ℕ)). e.name ∷ ns) (names-append s t)

-- names that stand twice
again-twice : (ns ms : List (List ℕ)) (m : List ℕ) → any (λ n. same n m) ns ≡ true → twice (ns ++ m ∷ ms) ≡ true
unfolding any twice among
again-twice [] ms m h = never h refl
again-twice (n ∷ ns) ms m h = either (same n m) (any (λ k. same k m) ns) h
    (λ e. or-first (twice (ns ++ m ∷ ms)) (any_append (same n) ns (m ∷ ms) ∙ or-second (any (same n) ns) (rw e)))
    (λ e. or-second (any (same n) (ns ++ m ∷ ms)) (again-twice ns ms m e))

once_more : (ns : List (List ℕ)) (m : List ℕ) → any (λ n. same n m) ns ≡ false → twice ns ≡ false → twice (ns ++ m ∷ []) ≡ false
unfolding any twice among
once_more [] m h k = refl
once_more (n ∷ ns) m h k =
    let a = neither (same n m) (any (λ k. same k m) ns) h in
    let b = neither (any (same n) ns) (twice ns) k in
    or-false (any_append (same n) ns (m ∷ []) ∙ or-false b.0 (or-false a.0 refl)) (once_more ns m a.1 b.1)

-- when a row may join
module _ (es : Table) (e : Entry) (u : upper e.name ≡ e.name) where
  listed-names : (b : Bool) → is_some (find (defaults ++ es) e.name) ≡ b → any (λ n. same n e.name) (names_of (defaults ++ es)) ≡ b
  listed-names b h = sym (find-names (defaults ++ es) e.name ∙ rw u) ∙ h

  all-names : (fs : Table) → names_of (defaults ++ (es ++ e ∷ fs)) ≡ names_of (defaults ++ es) ++ e.name ∷ names_of fs
  unfolding names_of
  all-names fs = ap names_of (sym (append_assoc defaults es (e ∷ fs))) ∙ names-append (defaults ++ es) (e ∷ fs)

  pub old-name : (fs : Table) → is_some (find (defaults ++ es) e.name) ≡ true → may_join (es ++ e ∷ fs) ≡ false
  unfolding may_join
  old-name fs h = rw (all-names fs, again-twice (names_of (defaults ++ es)) (names_of fs) e.name (listed-names true h)) (and-false-right (leb (length (es ++ e ∷ fs)) most_rows))

  pub may_add : ltb (length es) most_rows ≡ true → is_some (find (defaults ++ es) e.name) ≡ false → may_join es ≡ true → may_join (es ++ e ∷ []) ≡ true
  unfolding may_join names_of
  may_add l h m =
      let b = both (leb (length es) most_rows) (not (twice (names_of (defaults ++ es)))) m in
      and-true (le-leb (length (es ++ e ∷ [])) most_rows (rw length-append (omega (arith, ltb-true (length es) most_rows l))))
      (rw (all-names [], once_more (names_of (defaults ++ es)) e.name (listed-names false h) (not-true (twice (names_of (defaults ++ es))) b.1)))

pub too_many : (es fs : Table) (e : Entry) → ltb (length es) most_rows ≡ false → may_join (es ++ e ∷ fs) ≡ false
unfolding may_join
too_many es fs e h = rw (lt-leb (length (es ++ e ∷ fs)) most_rows (rw length-append (omega (arith, ltb-false (length es) most_rows h))))

-- the table with a row behind it, where the row may join
unfoldable pub added : Table → Option Entry → Option Table
added es r = pick (ltb (length es) most_rows) (map? (λ e. es ++ e ∷ []) (if_unlisted (defaults ++ es) r)) none

-- the rows of the lines behind those that are read
unfoldable pub joins : Table → List (List ℕ) → Option Table
joins es [] = none
joins es (l ∷ []) = when (not (filled l)) es
joins es (l ∷ k ∷ ls) = then? (added es (row_of l)) (λ fs. joins fs (k ∷ ls))

entry-upper : (f : List ℕ) (e : Entry) → entry_of f ≡ some e → upper e.name ≡ e.name
unfolding entry_of
entry-upper [] e h = missing h
entry-upper (c ∷ []) e h = missing h
entry-upper (c ∷ m ∷ n) e h =
    let w = when-is (is_row c m n) (entry n c (eqb m 1)) e h in
    ap-name w.1 (row-name-upper n (row_told c m n w.0).spelt)
  where
    ap-name : entry n c (eqb m 1) ≡ e → upper n ≡ n → upper e.name ≡ e.name
    ap-name q k = rw (← q) k

pub row-upper : (l : List ℕ) (e : Entry) → row_of l ≡ some e → upper e.name ≡ e.name
unfolding row_of
row-upper l e h = then_is (frame_of l) entry_of e h (λ f _ k. entry-upper f e k)

-- no way to join is no way at all
none-may : (es : Table) (o : Option Table) → ((fs : Table) → may_join (es ++ fs) ≡ false) → guard may_join (map? (λ fs. es ++ fs) o) ≡ none
unfolding guard map? when
none-may es none h = refl
none-may es (some fs) h = rw (h fs)

two-maps : (es : Table) (e : Entry) (o : Option Table) → map? (λ fs. es ++ fs) (both? ◌∷◌ (some e) o) ≡ map? (λ fs. (es ++ e ∷ []) ++ fs) o
unfolding map? both?
two-maps es e none = refl
two-maps es e (some fs) = ap some (sym (append_assoc es (e ∷ []) fs))

-- one line: its row joins, or none of the rest can
module _ (es : Table) (m : may_join es ≡ true) (rest : Option Table) (on : Table → Option Table)
    (ih : (fs : Table) → may_join fs ≡ true → on fs ≡ guard may_join (map? (λ gs. fs ++ gs) rest)) where
  a-row : (e : Entry) → upper e.name ≡ e.name → then? (added es (some e)) on ≡ guard may_join (map? (λ fs. es ++ fs) (both? ◌∷◌ (some e) rest))
  unfolding added if_unlisted guard when map? then?
  a-row e u = rw (two-maps es e rest) (cases (ltb (length es) most_rows)
      (λ l. rw l (cases (is_some (find (defaults ++ es) e.name))
      (λ h. rw h (sym (none-may (es ++ e ∷ []) rest (λ fs. rw append_assoc (old-name es e u fs h)))))
      (λ h. rw h (ih (es ++ e ∷ []) (may_add es e u l h m)))))
      (λ l. rw l (sym (none-may (es ++ e ∷ []) rest (λ fs. rw append_assoc (too_many es fs e l))))))

  no_row : then? (added es none) on ≡ guard may_join (map? (λ fs. es ++ fs) (both? ◌∷◌ none rest))
  unfolding added if_unlisted guard map? then? both?
  no_row = cases (ltb (length es) most_rows) (λ l. rw l) (λ l. rw l)

  a-line : (r : Option Entry) → ((e : Entry) → r ≡ some e → upper e.name ≡ e.name) → then? (added es r) on ≡ guard may_join (map? (λ fs. es ++ fs) (both? ◌∷◌ r rest))
  a-line none u = no_row
  a-line (some e) u = a-row e (u e refl)

lines_more : (l : List ℕ) (o : Option (List (List ℕ))) → then? (map? (λ ms. l ∷ ms) o) (each row_of) ≡ both? ◌∷◌ (row_of l) (then? o (each row_of))
unfolding map? then? each
lines_more l none = by (row_of l)
  where
    by : (r : Option Entry) → none ≡ both? {B = Table} ◌∷◌ r none
    by none = unfold both? in refl
    by (some e) = unfold both? in refl
lines_more l (some ms) = refl

joins-all : (ls : List (List ℕ)) (es : Table) → may_join es ≡ true → joins es ls ≡ guard may_join (map? (λ fs. es ++ fs) (then? (ended_lines ls) (each row_of)))
unfolding joins ended_lines
joins-all [] es m = unfold then? map? guard in refl
joins-all (l ∷ []) es m = unfold then? map? guard when each in cases (filled l) (λ f. rw f) (λ f. rw (f, append-nil es, m))
joins-all (l ∷ k ∷ ls) es m =
    rw (lines_more l (ended_lines (k ∷ ls)))
    (a-line es m (then? (ended_lines (k ∷ ls)) (each row_of)) (λ fs. joins fs (k ∷ ls)) (joins-all (k ∷ ls)) (row_of l) (row-upper l))

pub may_none : may_join [] ≡ true
unfolding may_join names_of defaults twice among any same
may_none = rw (leb-zero most_rows)

map-empty : (o : Option Table) → map? (λ fs. [] ++ fs) o ≡ o
unfolding map?
map-empty none = refl
map-empty (some fs) = refl

-- the rows of a file join one by one
pub joins-file : (hex : List ℕ) → guard may_join (rows_of hex) ≡ joins [] (split (code "\n") hex)
unfolding rows_of
joins-file hex = sym (joins-all (split (code "\n") hex) [] may_none ∙ rw map-empty)

-- the lines from the place `from` on
joins-more : (es : Table) (l : List ℕ) (ls : List (List ℕ)) → (ls ≡ [] → ⊥) → joins es (l ∷ ls) ≡ then? (added es (row_of l)) (λ fs. joins fs ls)
unfolding joins
joins-more es l [] n = absurd (n refl)
joins-more es l (k ∷ ls) n = refl

module _ (hex : List ℕ) (from : ℕ) (es : Table) where
  pub joins-end : length hex ≤ from → joins es (split (code "\n") (drop from hex)) ≡ some es
  unfolding joins split filled when
  joins-end h = rw (ended hex from h)

  module _ (h : from < length hex) where
    pub joins-cut : from + length (first_line (drop from hex)) ≡ length hex → joins es (split (code "\n") (drop from hex)) ≡ none
    unfolding joins when
    joins-cut e =
        rw (one_line (drop from hex) (rw length-drop (omega arith)), filled-some (drop from hex) (λ k. some_left (sym (length-drop from hex) ∙ k)))
      where
        some_left : length hex - from ≡ 0 → ⊥
        some_left k = omega arith

    pub joins-line : (end : ℕ) → end ≡ from + length (first_line (drop from hex)) → end < length hex
        → joins es (split (code "\n") (drop from hex)) ≡ then? (added es (row_of (take (end - from) (drop from hex)))) (λ fs. joins fs (split (code "\n") (drop (end + 1) hex)))
    joins-line end e k =
        let n = length (first_line (drop from hex)) in
        let a : end - from ≡ n = omega arith in
        let b : from + (n + 1) ≡ end + 1 = omega arith in
        let d : n < length (drop from hex) = rw length-drop (omega arith) in
        rw (more-lines (drop from hex) d, drop-drop (n + 1) from hex, a, b)
        (joins-more es (take n (drop from hex)) (split (code "\n") (drop (end + 1) hex)) (split-filled (code "\n") (drop (end + 1) hex)))
