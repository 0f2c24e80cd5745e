-- Reading a file of rows into a lent buffer: what is left there, and what it tells of the table.
use Prim.Native.Nat.{ℕ, suc, ◌+◌, ◌*◌, ◌≤◌}
use Prim.Native.Char.{code}
use mathlib.Core.Path.{◌≡◌, refl, sym, ap, ◌∙◌}
use mathlib.Core.Bool.{not}
use mathlib.Core.List.{List, [], ◌∷◌, ◌++◌}
use mathlib.Core.Option.{Option, none, some}
use native.Mathlib.Omega.{arith}
use borrow.Author.Tests.{le-leb, leb-true}
use lib.Dec.{leb}
use lib.ListN.{length, take, drop, replicate, length-append}
use lib.Seq.{take-append_seam}
use Rattle.octets.specs.Basics.{twice}
use Rattle.octets.specs.Pieces.{split}
use Rattle.octets.specs.Optional.{map?, then?, guard, each}
use Rattle.octets.specs.Limits.{most_rows}
use Rattle.octets.specs.Pen.{pen, wrote, Wrote}
use Rattle.octets.specs.Answers.{refused, accepted, then, or_else, number, Settled, settled, zeroed, answer, outcome, finished}
use Rattle.octets.specs.declared.Refusal.{Refusal}
use Rattle.std.specs.Prelude.{Ok, Err}
use Rattle.octets.proofs.Cases.{both}
use Rattle.octets.proofs.Limits.{most-rows}
use Rattle.octets.proofs.Optional.{map_is, guard-is, then_is, each_none, each-is}
use Rattle.octets.proofs.Answers.{finished-answer, numbered}
use Rattle.octets.proofs.Pen.{as-text, Landed, landed}
use Rattle.types.specs.Table.{Table, names_of, defaults}
use Rattle.types.specs.Rows.{row_of, ended_lines, rows_of, may_join, table_of}
use Rattle.types.specs.Laid.{laid_row, laid, rows_in, table_in, laid_of, room_for_rows}
use Rattle.types.specs.Reading.{pen_behind}
use Rattle.std.specs.Prelude.{Some, None}
use Rattle.types.proofs.Laid.{rows-again}
use Rattle.types.proofs.Progress.{row-size, map-none}

-- the one place that says how much room the code asks for
pub room-is : room_for_rows ≡ 2240
unfolding room_for_rows
room-is = rw most-rows

-- no file needs more
rows-size : (ls : List (List ℕ)) (es : Table) → each row_of ls ≡ some es → length (laid es) ≤ 35 * length es
unfolding laid
rows-size [] es e = rw (each_none row_of es e) (omega arith)
rows-size (l ∷ ls) es e =
    each-is row_of l ls es e
    (λ r rs h k q. rw (← q, length-append (laid_row r) (laid rs)) (more (length (laid_row r)) (length (laid rs)) (length rs) (row-size l r h) (rows-size ls rs k)))
  where
    more : (a b n : ℕ) → a ≤ 35 → b ≤ 35 * n → a + b ≤ 35 * suc n
    more a b n h k = omega arith

pub file-fits : (hex : List ℕ) (es : Table) → guard may_join (rows_of hex) ≡ some es → length (laid es) ≤ room_for_rows
unfolding rows_of may_join room_for_rows
file-fits hex es e =
    let g = guard-is may_join (then? (ended_lines (split (code "\n") hex)) (each row_of)) es e in
    let f = leb-true (length es) most_rows (both (leb (length es) most_rows) (not (twice (names_of (defaults ++ es)))) g.1).0 in
    then_is (ended_lines (split (code "\n") hex)) (each row_of) es g.0 (λ ls _ k. omega (arith, rows-size ls es k))

-- the rows of a file, laid out
module _ (hex : List ℕ) where
  none-laid : guard may_join (rows_of hex) ≡ none → laid_of hex ≡ refused 2
  unfolding laid_of map? or_else
  none-laid e = rw e

  some-laid : (es : Table) → guard may_join (rows_of hex) ≡ some es → laid_of hex ≡ accepted (laid es)
  unfolding laid_of map? or_else
  some-laid es e = rw e

-- what laying out rows leaves is what the definition says
module _ (hex o b : List ℕ) where
  pub malformed : pen_behind None b ≡ map? (λ es. wrote (pen o 0) (laid es)) (guard may_join (rows_of hex)) → (rows c : List ℕ) → length c ≡ length rows → answer (refused 2) c ≡ answer (laid_of hex) rows
  unfolding pen_behind answer zeroed
  malformed e rows c l = rw (none-laid hex (map-none (λ es. wrote (pen o 0) (laid es)) (guard may_join (rows_of hex)) (sym e)), l)

  -- in a buffer with room for any file they stand at the front
  module _ (h : room_for_rows ≤ length o) (n : ℕ) (e : pen_behind (Some n) b ≡ map? (λ es. wrote (pen o 0) (laid es)) (guard may_join (rows_of hex))) where
    there {ℓ} : {P : Type ℓ} → ((es : Table) → laid_of hex ≡ accepted (laid es) → length (laid es) ≤ length o → Landed o (laid es) b n → P) → P
    unfolding pen_behind
    there k =
        map_is (λ es. wrote (pen o 0) (laid es)) (guard may_join (rows_of hex)) (pen b n) (sym e)
        (λ es q w.
        let f : length (laid es) ≤ length o = omega (arith, file-fits hex es q) in
        k es (some-laid hex es q) f (landed o (laid es) b n f (record { is = sym w })))

    pub rows-within : n ≤ length b
    rows-within = there (λ es _ _ l. rw (l.count, l.buffer, length-append) (omega arith))

    pub written : outcome (Ok n) b ≡ answer (laid_of hex) o
    unfolding outcome answer
    written = there (λ es q k l. rw (q, le-leb (length (laid es)) (length o) k, l.count, l.buffer))

    pub copied : (r : Settled) (rows c : List ℕ) (at : ℕ) → Wrote (pen rows 0) (take n b) (pen c at) → r ≡ finished at c → r ≡ answer (laid_of hex) rows
    copied r rows c at w q =
        there (λ es a _ l. q ∙ finished-answer rows (laid es) c at (as-text w l.front) ∙ rw a)

-- what is laid out stands for the file's table
pub table-laid : (hex : List ℕ) → table_of hex ≡ then (laid_of hex) (λ s. accepted (table_in s))
unfolding table_of laid_of table_in
table-laid hex = by (guard may_join (rows_of hex))
  where
    by : (o : Option Table) → or_else 2 (map? (λ es. defaults ++ es) o) ≡ then (or_else 2 (map? laid o)) (λ s. accepted (defaults ++ rows_in s))
    by none = unfold or_else map? then in refl
    by (some es) = unfold or_else map? then in rw (rows-again es)

-- what the answer tells of the table, where the buffer has room for any file
pub record Read_table (hex b : List ℕ) (n : ℕ) : Type 0 where
  pub table : table_of hex ≡ accepted (table_in (take n b))
  pub within : n ≤ length b

module _ (hex o b : List ℕ) (h : room_for_rows ≤ length o) where
  read_none : guard may_join (rows_of hex) ≡ none → answer (laid_of hex) o ≡ settled 2 0 (replicate (length o) 0)
  unfolding answer zeroed
  read_none q = rw (none-laid hex q)

  read_some : (es : Table) → guard may_join (rows_of hex) ≡ some es → answer (laid_of hex) o ≡ settled 0 (length (laid es)) (laid es ++ drop (length (laid es)) o)
  unfolding answer
  read_some es q = let f = file-fits hex es q in rw (some-laid hex es q, le-leb (length (laid es)) (length o) (omega arith))

  pub rows_written : (n : ℕ) → outcome (Ok n) b ≡ answer (laid_of hex) o → Read_table hex b n
  unfolding outcome then
  rows_written n e = by (guard may_join (rows_of hex)) refl
    where
      laid-there : (es : Table) → guard may_join (rows_of hex) ≡ some es → settled 0 n b ≡ settled 0 (length (laid es)) (laid es ++ drop (length (laid es)) o) → Read_table hex b n
      laid-there es q k =
          let l : n ≡ length (laid es) = ap (λ (s : Settled). s.length) k in
          let c : b ≡ laid es ++ drop (length (laid es)) o = ap (λ (s : Settled). s.buffer) k in
          record {
            table = table-laid hex ∙ rw (some-laid hex es q, c, l, take-append_seam (laid es) (drop (length (laid es)) o));
            within = rw (c, l, length-append) (omega arith);
          }

      by : (g : Option Table) → guard may_join (rows_of hex) ≡ g → Read_table hex b n
      by none q = let z : ◌≡◌ {A = ℕ} 0 2 = ap (λ (s : Settled). s.number) (e ∙ read_none q) in absurd (omega arith)
      by (some es) q = laid-there es q (e ∙ read_some es q)

  pub rows-refused : (w : Refusal) → outcome (Err w) b ≡ answer (laid_of hex) o → (table_of hex ≡ refused 2) × (number w ≡ 2)
  unfolding outcome then
  rows-refused w e = by (guard may_join (rows_of hex)) refl
    where
      by : (g : Option Table) → guard may_join (rows_of hex) ≡ g → (table_of hex ≡ refused 2) × (number w ≡ 2)
      by none q = (table-laid hex ∙ rw (none-laid hex q), ap (λ (s : Settled). s.number) (e ∙ read_none q))
      by (some es) q = absurd (numbered w (ap (λ (s : Settled). s.number) (e ∙ read_some es q)))
