-- How far the rows of a file are laid out.
use Prim.Native.Nat.{ℕ, ◌+◌, ◌-◌, ◌*◌, ◌≤◌, ◌<◌}
use Prim.Native.Char.{code}
use mathlib.Core.Path.{◌≡◌, refl, sym, ap, ◌∙◌}
use mathlib.Core.Bool.{true, false, not}
use mathlib.Core.List.{List, [], ◌∷◌, ◌++◌, append-nil}
use mathlib.Core.Option.{Option, none, some}
use native.Mathlib.Omega.{arith}
use borrow.Author.Tests.{lt-ltb, le-ltb}
use lib.Dec.{eqb, ltb}
use lib.ListN.{length, take, drop, length-append, length-drop}
use Rattle.octets.specs.Pieces.{split}
use Rattle.octets.specs.Optional.{map?, then?, is_some, guard}
use Rattle.octets.specs.Limits.{most_rows}
use Rattle.octets.specs.Pen.{pen, wrote, Wrote}
use Rattle.octets.proofs.Optional.{missing, map_is, guard-is, then_is, when-is}
use Rattle.octets.proofs.Pen.{Landed, landed, kept, nothing, as-text, then}
use Rattle.octets.proofs.Classes.{between-true}
use Rattle.types.specs.Table.{Entry, entry, Table, find, defaults}
use Rattle.types.specs.Rows.{is_row, frame_of, entry_of, row_of, rows_of, may_join}
use Rattle.types.specs.Laid.{laid_row, laid, table_in, room_for_rows}
use Rattle.types.specs.Reading.{if_unlisted, pen_behind}
use Rattle.std.specs.Prelude.{Some, None}
use Rattle.types.proofs.Lines.{first_line, line-within}
use Rattle.types.proofs.Frames.{row_told}
use Rattle.types.proofs.Laid.{rows-again, laid-append}
use Rattle.types.proofs.Joining.{added, joins, joins-file, joins-end, joins-line}

-- a row takes at most 35 octets
entry-size : (f : List ℕ) (e : Entry) → entry_of f ≡ some e → length (laid_row e) ≤ 35
unfolding entry_of laid_row
entry-size [] e h = missing h
entry-size (c ∷ []) e h = missing h
entry-size (c ∷ m ∷ n) e h =
    let w = when-is (is_row c m n) (entry n c (eqb m 1)) e h in
    let s = between-true 1 32 (length n) (row_told c m n w.0).sized in
    let q : length n ≡ length e.name = ap (λ (x : Entry). length x.name) w.1 in
    omega arith

pub row-size : (l : List ℕ) (e : Entry) → row_of l ≡ some e → length (laid_row e) ≤ 35
unfolding row_of
row-size l e h = then_is (frame_of l) entry_of e h (λ f _ k. entry-size f e k)

-- one row behind others
behind : (es : Table) (r : Entry) → laid (es ++ r ∷ []) ≡ laid es ++ laid_row r
behind es r = laid-append es (r ∷ []) ∙ unfold laid in rw (append-nil (laid_row r))

pub map-none : {A B : Type 0} (g : A → B) (o : Option A) → map? g o ≡ none → o ≡ none
unfolding map?
map-none g none e = refl
map-none g (some a) e = missing (sym e)

unlisted-is : (t : Table) (o : Option Entry) (r : Entry) → if_unlisted t o ≡ some r → o ≡ some r
unfolding if_unlisted
unlisted-is t o r e = (guard-is (λ (x : Entry). not (is_some (find t x.name))) o r e).0

-- the lines before `from` are laid out before `at`, and the file's rows are those with the rows of the lines that are left
pub record Progress (hex o rows : List ℕ) (from at count : ℕ) : Type 0 where
  pub es : Table
  pub within : from ≤ length hex
  pub counted : count ≡ length es
  pub few : count ≤ most_rows
  pub small : length (laid es) ≤ 35 * count
  pub room : room_for_rows ≤ length o
  pub written : Wrote (pen o 0) (laid es) (pen rows at)
  pub left : guard may_join (rows_of hex) ≡ joins es (split (code "\n") (drop from hex))

pub begun : (hex o : List ℕ) → room_for_rows ≤ length o → Progress hex o o 0 0 0
unfolding laid
begun hex o h = record { es = []; within = omega arith; counted = refl; few = omega arith; small = omega arith; room = h; written = nothing; left = joins-file hex }

module _ {hex o rows : List ℕ} {from at count : ℕ} (p : Progress hex o rows from at count) where
  fitting : length (laid p.es) ≤ length o
  unfolding room_for_rows
  fitting = omega (arith, p.few, p.small, p.room)

  standing : Landed o (laid p.es) rows at
  standing = landed o (laid p.es) rows at fitting p.written

  pub in-room : at ≤ length rows
  in-room = omega (arith, standing.count, fitting, kept p.written)

  listed-so-far : table_in (take at rows) ≡ defaults ++ p.es
  unfolding table_in
  listed-so-far = rw (standing.front, rows-again p.es)

  pub all_read : length hex ≤ from → pen_behind (Some at) rows ≡ map? (λ es. wrote (pen o 0) (laid es)) (guard may_join (rows_of hex))
  unfolding pen_behind map?
  all_read h = rw (p.left, joins-end hex from p.es h) (ap some p.written.is)

  -- at a line that ends at `end`
  module _ (h : from < length hex) (end : ℕ) (e : end ≡ from + length (first_line (drop from hex))) (k : end < length hex) where
    line-left : guard may_join (rows_of hex) ≡ then? (added p.es (row_of (take (end - from) (drop from hex)))) (λ fs. joins fs (split (code "\n") (drop (end + 1) hex)))
    line-left = p.left ∙ joins-line hex from p.es h end e k

    pub too_many_rows : most_rows ≤ count → guard may_join (rows_of hex) ≡ none
    unfolding added then?
    too_many_rows c =
        let l : ltb (length p.es) most_rows ≡ false = le-ltb (length p.es) most_rows (omega (arith, p.counted)) in
        line-left ∙ rw l

    module _ (l : count < most_rows) where
      one_more : ltb (length p.es) most_rows ≡ true
      one_more = lt-ltb (length p.es) most_rows (omega (arith, p.counted))

      added_is : added p.es (row_of (take (end - from) (drop from hex))) ≡ map? (λ r. p.es ++ r ∷ []) (if_unlisted (table_in (take at rows)) (row_of (take (end - from) (drop from hex))))
      unfolding added
      added_is = rw (one_more, listed-so-far)

      module _ (b : List ℕ) where
        pub bad-line : pen_behind None b ≡ map? (λ r. wrote (pen rows at) (laid_row r)) (if_unlisted (table_in (take at rows)) (row_of (take (end - from) (drop from hex)))) → guard may_join (rows_of hex) ≡ none
        unfolding pen_behind then?
        bad-line t =
            let q = map-none (λ r. wrote (pen rows at) (laid_row r)) (if_unlisted (table_in (take at rows)) (row_of (take (end - from) (drop from hex)))) (sym t) in
            line-left ∙ rw (added_is, q) (unfold map? in refl)

        pub good-line : (next : ℕ) → pen_behind (Some next) b ≡ map? (λ r. wrote (pen rows at) (laid_row r)) (if_unlisted (table_in (take at rows)) (row_of (take (end - from) (drop from hex))))
            → Progress hex o b (end + 1) next (count + 1)
        unfolding pen_behind
        good-line next t =
            map_is (λ r. wrote (pen rows at) (laid_row r)) (if_unlisted (table_in (take at rows)) (row_of (take (end - from) (drop from hex)))) (pen b next) (sym t)
            (λ r q w. joined r q (record { is = sym w }))
          where
            joined : (r : Entry) → if_unlisted (table_in (take at rows)) (row_of (take (end - from) (drop from hex))) ≡ some r → Wrote (pen rows at) (laid_row r) (pen b next) → Progress hex o b (end + 1) next (count + 1)
            joined r q w = record {
              es = p.es ++ r ∷ [];
              within = omega arith;
              counted = rw (length-append, p.counted);
              few = omega arith;
              small = rw (behind p.es r, length-append) (omega (arith, p.small, row-size (take (end - from) (drop from hex)) r (unlisted-is (table_in (take at rows)) (row_of (take (end - from) (drop from hex))) r q)));
              room = p.room;
              written = as-text (then p.written w) (sym (behind p.es r));
              left = line-left ∙ rw (added_is, q) (unfold map? then? in refl);
            }

-- nothing is laid out of a file that is refused
pub refused-file : (hex o b : List ℕ) → guard may_join (rows_of hex) ≡ none → pen_behind None b ≡ map? (λ es. wrote (pen o 0) (laid es)) (guard may_join (rows_of hex))
unfolding pen_behind map?
refused-file hex o b e = rw e

-- the line at `from` ends in the file
pub end-within : (hex : List ℕ) (from end : ℕ) → from ≤ length hex → end ≡ from + length (first_line (drop from hex)) → end ≤ length hex
end-within hex from end h e = omega (arith, line-within (drop from hex), length-drop from hex)
