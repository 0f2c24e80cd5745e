-- Laying out a row: what the pen leaves, by whether there is one and its name is new.
use Prim.Native.Nat.{ℕ, ◌-◌}
use mathlib.Core.Path.{◌≡◌, sym, ap, ◌∙◌}
use mathlib.Core.Bool.{Bool, true, false}
use mathlib.Core.List.{List, [], ◌∷◌}
use mathlib.Core.Option.{Option, none, some}
use lib.ListN.{length, take, drop}
use Rattle.octets.specs.Optional.{map?, then?, is_some, when, guard}
use Rattle.types.specs.Rows.{entry_of}
use Rattle.octets.specs.Pen.{Pen, pen, wrote, Wrote}
use Rattle.octets.proofs.Pen.{then}
use Rattle.types.specs.Table.{Row, Entry, Table, find}
use Rattle.types.specs.Laid.{laid_row, table_in, row_found}
use Rattle.types.specs.Reading.{if_unlisted, pen_behind}
use Rattle.std.specs.Prelude.{Some, None, is_some as found}
use Rattle.std.specs.declared.option.Option as code
use Rattle.types.specs.declared.Listing.{Listing}
use Rattle.types.proofs.Frames.{Framed}

module _ (t : Table) (g : Entry → Pen) (b : List ℕ) (o : Option Entry) where
  pub no_row : o ≡ none → pen_behind None b ≡ map? g (if_unlisted t o)
  unfolding pen_behind if_unlisted guard map?
  no_row e = rw e

  module _ (r : Entry) (e : o ≡ some r) where
    pub old_row : is_some (find t r.name) ≡ true → pen_behind None b ≡ map? g (if_unlisted t o)
    unfolding pen_behind if_unlisted guard when map?
    old_row k = rw (e, k)

    pub new_row : (n : ℕ) → is_some (find t r.name) ≡ false → pen b n ≡ g r → pen_behind (Some n) b ≡ map? g (if_unlisted t o)
    unfolding pen_behind if_unlisted guard when map?
    new_row n k q = rw (e, k) (ap some q)

-- what decoding a line says of its row
pub undecoded : (f : ℕ → List ℕ) {o : Option Entry} → then? (map? f none) entry_of ≡ o → o ≡ none
unfolding then? map?
undecoded f e = sym e

pub decoded : (f : ℕ → List ℕ) (n : ℕ) {o : Option Entry} → then? (map? f (some n)) entry_of ≡ o → entry_of (f n) ≡ o
unfolding then? map?
decoded f n e = e

-- the name of a frame beside the rows that stand before `at`
pub beside : {b : Bool} (rows f : List ℕ) (at : ℕ) (r : Framed f)
    → b ≡ is_some (find (table_in (take at rows)) (take (length f - 2) (drop 2 f))) → is_some (find (table_in (take at rows)) r.row.name) ≡ b
beside rows f at r e = sym (e ∙ rw r.name)

-- there is a row where a lookup finds one
pub found-some : (r : code.Option Listing) {o : Option Row} {b : Bool} → row_found r ≡ o → b ≡ found r → b ≡ is_some o
unfolding row_found is_some
found-some None e f = f ∙ ap is_some e
found-some (Some l) e f = f ∙ ap is_some e

-- the length of the name is written, and then the frame
pub wrote-frame : {p q s : Pen} (f : List ℕ) (r : Framed f) → Wrote p ((length f - 2) ∷ []) q → Wrote q f s → s ≡ wrote p (laid_row r.row)
wrote-frame f r a b = (then a b).is ∙ rw r.laid
