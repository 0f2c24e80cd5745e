-- Rows laid out as octets, and read from them again.
use Prim.Native.Nat.{ℕ, zero, suc, ◌+◌, ◌-◌, ◌≤◌, ◌<◌}
use mathlib.Core.Path.{◌≡◌, refl, sym, ap, ◌∙◌}
use mathlib.Core.Bool.{Bool, true, false}
use mathlib.Core.List.{List, [], ◌∷◌, ◌++◌, append_assoc}
use mathlib.Core.Option.{none, some}
use native.Mathlib.Omega.{arith}
use native.Mathlib.Numerals.{add-two}
use borrow.Author.Tests.{le-leb, lt-leb}
use lib.Dec.{eqb}
use lib.ListN.{length, get_or, take, drop, length-append, length-drop}
use lib.Seq.{drop-append_seam, take-append_seam, drop-drop, get_or-drop}
use Rattle.octets.specs.Basics.{pick, same}
use Rattle.octets.specs.Classes.{upper}
use Rattle.octets.proofs.Positions.{from, here, ended}
use Rattle.types.specs.Table.{Entry, entry, Table, find}
use Rattle.types.specs.Laid.{laid_row, laid, rows_from, rows_in}

rows-past : (k : ℕ) (s : List ℕ) → rows_from k s ≡ rows_in (drop k s)
unfolding rows_from rows_in
rows-past zero [] = refl
rows-past (suc k) [] = refl
rows-past zero (x ∷ s) = refl
rows-past (suc k) (x ∷ s) = rows-past k s

-- the first row
pub a-row : (n : ℕ) (s : List ℕ) → n + 2 ≤ length s → rows_in (n ∷ s) ≡ entry (take n (drop 2 s)) (get_or s 0 0) (eqb (get_or s 1 0) 1) ∷ rows_in (drop (n + 2) s)
unfolding rows_from rows_in
a-row n s h = rw (le-leb (n + 2) (length s) h) (ap (λ (t : Table). entry (take n (drop 2 s)) (get_or s 0 0) (eqb (get_or s 1 0) 1) ∷ t) (rows-past (n + 2) s))

pub no_row : (n : ℕ) (s : List ℕ) → length s < n + 2 → rows_in (n ∷ s) ≡ []
unfolding rows_from rows_in
no_row n s h = rw (lt-leb (n + 2) (length s) h)

many-again : (m : Bool) → eqb (pick m 1 0) 1 ≡ m
many-again true = refl
many-again false = refl

row-again : (e : Entry) (s : List ℕ) → rows_in (laid_row e ++ s) ≡ e ∷ rows_in s
unfolding laid_row
row-again e s =
    a-row (length e.name) (e.row.code ∷ pick e.row.many 1 0 ∷ (e.name ++ s)) (omega (arith, length-append e.name s))
    ∙ rw (add-two, many-again e.row.many, take-append_seam e.name s, drop-append_seam e.name s)

pub rows-again : (t : Table) → rows_in (laid t) ≡ t
unfolding laid
rows-again [] = unfold rows_in rows_from in refl
rows-again (e ∷ t) = row-again e (laid t) ∙ ap (λ (u : Table). e ∷ u) (rows-again t)

pub laid-append : (s t : Table) → laid (s ++ t) ≡ laid s ++ laid t
unfolding laid
laid-append [] t = refl
laid-append (e ∷ s) t = rw (laid-append s t) (sym (append_assoc (laid_row e) (laid s) (laid t)))

-- looking a name up in rows: what is behind the three octets in front of the first row's name
abbrev pub behind-three : List ℕ → List ℕ
behind-three s = take (length s - 3) (drop 3 s)

module _ (s name : List ℕ) where
  pub find-end : length s < 3 → find (rows_in s) name ≡ none
  unfolding find
  find-end h = by s h
    where
      by : (s : List ℕ) → length s < 3 → find (rows_in s) name ≡ none
      by [] h = unfold rows_in rows_from in refl
      by (n ∷ r) h = rw (no_row n r (omega arith))

  module _ (h : 3 ≤ length s) where
    pub find-cut : length (behind-three s) < get_or s 0 0 → find (rows_in s) name ≡ none
    unfolding find
    find-cut k = by s h (rw (from s 3) at k)
      where
        by : (s : List ℕ) → 3 ≤ length s → length (drop 3 s) < get_or s 0 0 → find (rows_in s) name ≡ none
        by [] h k = absurd (omega arith)
        by (n ∷ []) h k = absurd (omega arith)
        by (n ∷ c ∷ []) h k = absurd (omega arith)
        by (n ∷ c ∷ m ∷ r) h k = rw (no_row n (c ∷ m ∷ r) (omega arith))

    module _ (k : get_or s 0 0 ≤ length (behind-three s)) where
      row-first : rows_in s ≡ entry (take (get_or s 0 0) (behind-three s)) (get_or s 1 0) (eqb (get_or s 2 0) 1) ∷ rows_in (take (length (behind-three s) - get_or s 0 0) (drop (get_or s 0 0) (behind-three s)))
      row-first = rw (from (behind-three s) (get_or s 0 0), from s 3) (by s h (rw (from s 3) at k))
        where
          by : (s : List ℕ) → 3 ≤ length s → get_or s 0 0 ≤ length (drop 3 s)
              → rows_in s ≡ entry (take (get_or s 0 0) (drop 3 s)) (get_or s 1 0) (eqb (get_or s 2 0) 1) ∷ rows_in (drop (get_or s 0 0) (drop 3 s))
          by [] h k = absurd (omega arith)
          by (n ∷ []) h k = absurd (omega arith)
          by (n ∷ c ∷ []) h k = absurd (omega arith)
          by (n ∷ c ∷ m ∷ r) h k = a-row n (c ∷ m ∷ r) (omega arith) ∙ rw add-two

      pub find-here : same (take (get_or s 0 0) (behind-three s)) (upper name) ≡ true
          → find (rows_in s) name ≡ some (record { code = get_or s 1 0; many = eqb (get_or s 2 0) 1 })
      unfolding find
      find-here e = ap (λ (t : Table). find t name) row-first ∙ rw e

      pub find-behind : same (take (get_or s 0 0) (behind-three s)) (upper name) ≡ false
          → find (rows_in s) name ≡ find (rows_in (take (length (behind-three s) - get_or s 0 0) (drop (get_or s 0 0) (behind-three s)))) name
      unfolding find
      find-behind e = ap (λ (t : Table). find t name) row-first ∙ rw e

-- the rows from the place `at` on: none at the end or where the row is cut short, else one and those behind it
module _ (rows : List ℕ) (at : ℕ) where
  pub rows_end : length rows ≤ at → rows_in (drop at rows) ≡ []
  unfolding rows_in rows_from
  rows_end h = rw (ended rows at h)

  module _ (h : at < length rows) where
    pub row_cut : length rows - at < get_or rows at 0 + 3 → rows_in (drop at rows) ≡ []
    row_cut k = rw (here rows at h) (no_row (get_or rows at 0) (drop (at + 1) rows) (rw length-drop (omega arith)))

    pub row_here : get_or rows at 0 + 3 ≤ length rows - at
        → rows_in (drop at rows) ≡ entry (take (get_or rows at 0) (drop (at + 3) rows)) (get_or rows (at + 1) 0) (eqb (get_or rows (at + 2) 0) 1) ∷ rows_in (drop (at + 3 + get_or rows at 0) rows)
    row_here k =
        let n = get_or rows at 0 in
        let e : at + 1 + 2 ≡ at + 3 = omega arith in
        let f : at + 1 + (n + 2) ≡ at + 3 + n = omega arith in
        let g : at + 1 + 0 ≡ at + 1 = omega arith in
        let i : at + 1 + 1 ≡ at + 2 = omega arith in
        rw (here rows at h, a-row n (drop (at + 1) rows) (rw length-drop (omega arith)), drop-drop 2 (at + 1) rows, drop-drop (n + 2) (at + 1) rows, get_or-drop (at + 1) rows 0 0, get_or-drop (at + 1) rows 1 0, e, f, g, i)
