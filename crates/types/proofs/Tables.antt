-- Tables that a file makes: what their rows are, what a lookup in them tells, and what it means that a newer table keeps the rows of an older one.
use Prim.Native.Nat.{ℕ, ◌≤◌}
use Prim.Native.Char.{code}
use mathlib.Core.Path.{◌≡◌, refl, sym, ap, ◌∙◌}
use mathlib.Core.Bool.{Bool, true, false, not}
use mathlib.Core.Logic.{◌⊎◌, inl, inr, ⊎_elim}
use mathlib.Core.List.Memᴰ
use mathlib.Core.List.{List, [], ◌∷◌, ◌++◌, Memᴰ}
use mathlib.Core.Option.{Option, none, some}
use borrow.Author.Tests.{not-true}
use lib.Dec.{eqb, leb}
use lib.ListN.{length}
use Rattle.octets.specs.Basics.{octets, pick, ◌or◌, all, any, same, among, twice, All}
use Rattle.octets.specs.Pieces.{split}
use Rattle.octets.specs.Optional.{map?, guard, each}
use Rattle.octets.specs.Classes.{between, is_upper, is_digit, is_lower, upper_octet, upper, lower, same_name}
use Rattle.octets.specs.Limits.{most_rows}
use Rattle.octets.specs.Answers.{accepted}
use Rattle.octets.proofs.Cases.{cases, never, both, neither, or-first, or-second, All-append, all-All}
use Rattle.octets.proofs.Classes.{between-true, same-is, same-itself, upper-lower, upper-twice}
use Rattle.octets.proofs.Optional.{missing, some_same, map_is, guard-is, then_is, when-is, each_none, each-is}
use Rattle.octets.proofs.Answers.{or_else-accepted}
use Rattle.types.specs.Codes.{binary, utc_offset, type_splits}
use Rattle.types.specs.Table.{Row, Entry, entry, Table, names_of, find, defaults}
use Rattle.types.specs.Rows.{row_octet, is_row, frame_of, entry_of, row_of, ended_lines, rows_of, may_join, table_of, Keeps}
use Rattle.types.proofs.Frames.{Row-told, row_told, no-keyword, one-or-many}
use Rattle.types.proofs.LookupLaws.{find-case}

-- a row as a file may have it
unfoldable pub right : Entry → Bool
right e = is_row e.row.code (pick e.row.many 1 0) e.name

defaults-right : all right defaults ≡ true
unfolding right all defaults is_row between type_splits row_octet is_upper is_digit same
defaults-right = refl

entry-right : (f : List ℕ) (e : Entry) → entry_of f ≡ some e → right e ≡ true
unfolding entry_of right
entry-right [] e h = missing h
entry-right (c ∷ []) e h = missing h
entry-right (c ∷ m ∷ n) e h =
    let w = when-is (is_row c m n) (entry n c (eqb m 1)) e h in
    rw (← w.1, one-or-many c m (row_told c m n w.0).some-many) w.0

row-right : (l : List ℕ) (e : Entry) → row_of l ≡ some e → right e ≡ true
unfolding row_of
row-right l e h = then_is (frame_of l) entry_of e h (λ f _ k. entry-right f e k)

rows_right : (ls : List (List ℕ)) (es : Table) → each row_of ls ≡ some es → All (λ e. right e ≡ true) es
rows_right [] es e = rw (each_none row_of es e) tt
rows_right (l ∷ ls) es e = each-is row_of l ls es e (λ r rs h k q. rw (← q) (row-right l r h, rows_right ls rs k))

-- a table that a file makes: each row is right, and no name stands twice
pub record Well-formed (t : Table) : Type 0 where
  pub rows : All (λ e. right e ≡ true) t
  pub distinct : twice (names_of t) ≡ false

pub well-formed : (hex : List ℕ) (t : Table) → table_of hex ≡ accepted t → Well-formed t
unfolding table_of rows_of may_join
well-formed hex t e =
    map_is (λ es. defaults ++ es) (guard may_join (rows_of hex)) t (or_else-accepted 2 (map? (λ es. defaults ++ es) (guard may_join (rows_of hex))) t e)
    (λ es h q.
    let g = guard-is may_join (rows_of hex) es h in
    let b = both (leb (length es) most_rows) (not (twice (names_of (defaults ++ es)))) g.1 in
    rw (← q) (record {
      rows = All-append (λ e. right e ≡ true) defaults es (all-All right defaults defaults-right) (then_is (ended_lines (split (code "\n") hex)) (each row_of) es g.0 (λ ls _ k. rows_right ls es k));
      distinct = not-true (twice (names_of (defaults ++ es))) b.1;
    }))

-- a row that a table has for a name
found_right : (t : Table) (n : List ℕ) (r : Row) → All (λ e. right e ≡ true) t → find t n ≡ some r → is_row r.code (pick r.many 1 0) (upper n) ≡ true
unfolding find right
found_right [] n r a h = missing h
found_right (e ∷ t) n r a h = cases (same e.name (upper n))
    (λ s. let q : e.row ≡ r = some_same (rw s at h) in rw (← same-is e.name (upper n) s, ← q) a.0)
    (λ s. found_right t n r a.1 (rw s at h))

module _ (t : Table) (w : Well-formed t) (n : List ℕ) (r : Row) (h : find t n ≡ some r) where
  found-told : Row-told r.code (pick r.many 1 0) (upper n)
  found-told = row_told r.code (pick r.many 1 0) (upper n) (found_right t n r w.rows h)

  -- its type is one of the fourteen
  pub found-code : (1 ≤ r.code) × (r.code ≤ 14)
  found-code = between-true binary utc_offset r.code found-told.coded

  -- the name is one of a property
  pub found_name : (all row_octet (upper n) ≡ true) × (same_name n (octets "BEGIN") ≡ false) × (same_name n (octets "END") ≡ false)
  unfolding same_name upper upper_octet is_lower between no-keyword
  found_name =
      let k = neither (same (upper n) (octets "BEGIN")) (same (upper n) (octets "END")) (not-true (same (upper n) (octets "BEGIN") or same (upper n) (octets "END")) found-told.no_word) in
      (found-told.spelt, k.0, k.1)

-- the row that a table has under a name, and the name's one row
found-row {ℓ} : {P : Type ℓ} (t : Table) (n : List ℕ) (r : Row) → find t n ≡ some r → ((e : Entry) → Memᴰ e t → e.name ≡ upper n → e.row ≡ r → P) → P
unfolding find
found-row [] n r h k = missing h
found-row (x ∷ t) n r h k = cases (same x.name (upper n))
    (λ s. k x (Memᴰ.head refl) (same-is x.name (upper n) s) (some_same (rw s at h)))
    (λ s. found-row t n r (rw s at h) (λ e m. k e (Memᴰ.tail m)))

name-among : (t : Table) (e : Entry) → Memᴰ e t → among e.name (names_of t) ≡ true
unfolding among any names_of
name-among [] e m = absurd (Memᴰ.not-nil m)
name-among (x ∷ t) e m = ⊎_elim
    (λ q. or-first {a = same e.name x.name} (any (same e.name) (names_of t)) (rw q (same-itself x.name)))
    (λ k. or-second (same e.name x.name) (name-among t e k))
    (Memᴰ.cases_cons m)

row-found : (t : Table) (n : List ℕ) (e : Entry) → twice (names_of t) ≡ false → Memᴰ e t → e.name ≡ upper n → find t n ≡ some e.row
unfolding find twice names_of
row-found [] n e d m q = absurd (Memᴰ.not-nil m)
row-found (x ∷ t) n e d m q =
    let b = neither (among x.name (names_of t)) (twice (names_of t)) d in
    ⊎_elim
    (λ k. rw (← k, q, same-itself (upper n)))
    (λ k. cases (same x.name (upper n))
    (λ s. never (name-among t e k) (ap (λ l. among l (names_of t)) (q ∙ sym (same-is x.name (upper n) s)) ∙ b.0))
    (λ s. rw s (row-found t n e b.1 k q)))
    (Memᴰ.cases_cons m)

-- what a newer table that keeps the rows says of a name that the older one lists
module _ (older newer : Table) (w : Well-formed newer) (k : Keeps older newer) (n : List ℕ) where
  pub kept-found : (r : Row) → find older n ≡ some r → find newer n ≡ some r
  kept-found r h = found-row older n r h (λ e m q s. row-found newer n e w.distinct (k e m) q ∙ ap some s)

  -- the same row, or none
  pub kept-or-none : (find older n ≡ find newer n) ⊎ (find older n ≡ none)
  kept-or-none = by (find older n) refl
    where
      by : (o : Option Row) → find older n ≡ o → (o ≡ find newer n) ⊎ (o ≡ none)
      by none e = inr refl
      by (some r) e = inl (sym (kept-found r e))

-- a name in either case
pub found-lower : (t : Table) (n : List ℕ) → find t (lower n) ≡ find t n
found-lower t n = find-case t (lower n) n (upper-lower n)

pub found-upper : (t : Table) (n : List ℕ) → find t (upper n) ≡ find t n
found-upper t n = find-case t (upper n) n (upper-twice n)
