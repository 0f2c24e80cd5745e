-- Looking a name up: in two tables, by its first letter, in either case.
use Prim.Native.Nat.{ℕ, ◌-◌, ◌<◌, ◌≤◌}
use mathlib.Core.Path.{◌≡◌, refl, sym, ap, ◌∙◌}
use mathlib.Core.Bool.{true, false}
use mathlib.Core.List.{List, [], ◌∷◌, ◌++◌, map}
use mathlib.Core.Option.{Option, none, some}
use borrow.Author.Tests.{eq-eqb}
use lib.Dec.{eqb}
use lib.ListN.{length, get_or, take, drop}
use lib.Seq.{take_all}
use native.Mathlib.Omega.{arith}
use Rattle.octets.specs.Basics.{same}
use Rattle.octets.specs.Optional.{or?}
use Rattle.octets.specs.Classes.{upper_octet, upper}
use Rattle.octets.proofs.Cases.{cases, never}
use Rattle.octets.proofs.Classes.{same-is}
use Rattle.types.specs.Table.{Row, Entry, Table, find, defaults}
use Rattle.std.specs.Prelude.{Some, None}
use Rattle.std.specs.declared.option.Option as code
use Rattle.types.specs.declared.Listing.{Listing}
use Rattle.types.specs.Laid.{rows_in, table_in, row_found}
use Rattle.types.specs.Reading.{led}
use Rattle.types.proofs.Names.{upper-at}

-- a name in another case is the same name
pub find-case : (t : Table) (a b : List ℕ) → upper a ≡ upper b → find t a ≡ find t b
unfolding find
find-case [] a b e = refl
find-case (x ∷ t) a b e = rw (e, find-case t a b e)

-- what the first of two tables says, or else the second
pub find-append : (s t : Table) (n : List ℕ) → find (s ++ t) n ≡ or? (find s n) (find t n)
unfolding find or?
find-append [] t n = refl
find-append (e ∷ s) t n = cases (same e.name (upper n)) (λ h. rw h) (λ h. rw h (find-append s t n))

other-letter : (m n : List ℕ) (k : ℕ) → upper_octet (get_or n 0 0) ≡ k → eqb k (get_or m 0 0) ≡ false → same m (upper n) ≡ false
other-letter m n k u q = cases (same m (upper n))
    (λ e. never (eq-eqb k (get_or m 0 0) (sym u ∙ sym (upper-at n 0) ∙ ap (λ (l : List ℕ). get_or l 0 0) (sym (same-is m (upper n) e)))) q)
    (λ e. e)

-- a name is among the rows that begin as it does, or nowhere
by-letter : (k : ℕ) (t : Table) (n : List ℕ) → upper_octet (get_or n 0 0) ≡ k → find (led k t) n ≡ find t n
unfolding find led
by-letter k [] n u = refl
by-letter k (e ∷ t) n u = cases (eqb k (get_or e.name 0 0))
    (λ q. rw (q, by-letter k t n u))
    (λ q. rw (q, other-letter e.name n k u q) (by-letter k t n u))

-- what the rows of its first letter say of a name, the table says of it
pub in-letter : (k : ℕ) (t : Table) (n : List ℕ) {i : ℕ} {r : Option Row} → i ≡ upper_octet (get_or n 0 0) → i ≡ k → r ≡ find (led k t) n → r ≡ find t n
in-letter k t n u e q = q ∙ by-letter k t n (sym u ∙ e)

-- a name whose first letter no row has
pub no-letter : (n : List ℕ) (k : ℕ) → k ≡ upper_octet (get_or n 0 0) → (t : Table) → led k t ≡ [] → find t n ≡ none
unfolding find
no-letter n k u t e = sym (by-letter k t n (sym u)) ∙ ap (λ (s : Table). find s n) e

-- what the first of some listed rows says of a name, or those behind it
module _ {A : Type 0} (f : A → Entry) (s : List A) where
  pub first-none : (n : List ℕ) → length s < 1 → find (map f s) n ≡ none
  first-none n h = by s h
    where
      by : (s : List A) → length s < 1 → find (map f s) n ≡ none
      by [] h = unfold find in refl
      by (x ∷ s) h = absurd (omega arith)

  module _ (d : A) (n : List ℕ) (h : 1 ≤ length s) where
    map-front : map f s ≡ f (get_or s 0 d) ∷ map f (take (length s - 1) (drop 1 s))
    map-front = by s h
      where
        by : (s : List A) → 1 ≤ length s → map f s ≡ f (get_or s 0 d) ∷ map f (take (length s - 1) (drop 1 s))
        by [] h = absurd (omega arith)
        by (x ∷ s) h = let l : length s ≤ length (x ∷ s) - 1 = omega arith in rw (take_all (length (x ∷ s) - 1) s l)

    pub first-here : same (f (get_or s 0 d)).name (upper n) ≡ true → find (map f s) n ≡ some (f (get_or s 0 d)).row
    unfolding find
    first-here e = rw (map-front, e)

    pub first-behind : same (f (get_or s 0 d)).name (upper n) ≡ false → find (map f s) n ≡ find (map f (take (length s - 1) (drop 1 s))) n
    unfolding find
    first-behind e = ap (λ (t : Table). find t n) map-front ∙ rw e

-- the default types go before the added rows
pub found-default : (s n : List ℕ) (r : Row) → find defaults n ≡ some r → find (table_in s) n ≡ some r
unfolding table_in or?
found-default s n r e = find-append defaults (rows_in s) n ∙ rw e

-- what the code's lookup found among them
pub found-some-default : (s n : List ℕ) (r : code.Option Listing) → (r ≡ None → ⊥) → row_found r ≡ find defaults n → find (table_in s) n ≡ find defaults n
unfolding row_found
found-some-default s n None k e = absurd (k refl)
found-some-default s n (Some l) k e = found-default s n (record { code = l.code; many = l.many }) (sym e) ∙ e

pub not-default : (s n : List ℕ) → find defaults n ≡ none → find (table_in s) n ≡ find (rows_in s) n
unfolding table_in or?
not-default s n e = find-append defaults (rows_in s) n ∙ rw e

-- one row more behind some
pub one_more : (s : Table) (e : Entry) (n : List ℕ) (a r : Option Row) → a ≡ find s n → r ≡ or? a (find (e ∷ []) n) → r ≡ find (s ++ e ∷ []) n
one_more s e n a r p q = q ∙ rw p (sym (find-append s (e ∷ []) n))
