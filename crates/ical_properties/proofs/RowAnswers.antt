-- What a row and a type say, by what was found of them.
use Prim.Native.Nat.{ℕ}
use mathlib.Core.Path.{◌≡◌, refl, sym, ap, ◌∙◌}
use mathlib.Core.Bool.{Bool, true, false, not}
use mathlib.Core.List.{List}
use mathlib.Core.Option.{Option, none, some}
use lib.Dec.{eqb}
use Rattle.octets.specs.Basics.{octets, pick, ◌and◌, ◌or◌, same}
use Rattle.octets.specs.Optional.{is_some}
use Rattle.types.specs.Codes.{type_name, code_named, binary}
use Rattle.types.specs.Table.{Row}
use Rattle.types.specs.Laid.{row_found}
use Rattle.std.specs.Prelude.{Some, None}
use Rattle.std.specs.declared.option.Option as coded
use Rattle.types.specs.declared.Listing.{Listing}
use Rattle.values.specs.Base64.{binary_fits, is_decoded}
use Rattle.values.specs.Sorts.{sort_of}
use Rattle.values.specs.Coded.{sort_said}
use Rattle.values.specs.declared.sorts.Sort.{Sort}
use Rattle.values.specs.declared.sorts.Sort.TheVariants.{Plain}
use Rattle.conversion_theory.specs.Property.{type_of, code_of, many_of}
use Rattle.conversion_theory.specs.Return.{is_unknown, stated_type, states_plain, encoding_fits, is_default, shown}
use Rattle.conversion_theory.proofs.PropertyReading.{unprocessed-code}
use Rattle.ical_properties.specs.Ruled.{Rules, fits_by}
use Rattle.ical_properties.specs.declared.Ruling.{Ruling}
use borrow.Author.Tests.{ne_eqb}
use Rattle.octets.proofs.Cases.{and-true-right, or_true_right}

abbrev row : ℕ → Bool → Row
row c m = record { code = c; many = m }

-- what was found
pub listed : {f : coded.Option Listing} {l : Listing} {r : Option Row} → f ≡ Some l → row_found f ≡ r → some (row l.code l.many) ≡ r
unfolding row_found
listed e q = rw e at q

pub unlisted : {f : coded.Option Listing} {r : Option Row} → f ≡ None → row_found f ≡ r → none ≡ r
unfolding row_found
unlisted e q = rw e at q

-- "unknown"
module _ (n : List ℕ) where
  pub unknown-listed : {r : Option Row} {c d : ℕ} {m : Bool} → some (row d m) ≡ r → c ≡ code_named (type_name d)
      → Rules r n (octets "unknown") (record { code = c; many = m; sort = Plain; shown = false; taken = true })
  unfolding same is_unknown stated_type code_of type_of many_of shown is_some sort_said
  unknown-listed e k = rw (← e) (record { code = k; many = refl; sort = refl; shown = refl; taken = refl })

  pub unknown-unlisted : {r : Option Row} → none ≡ r → Rules r n (octets "unknown") (record { code = 0; many = true; sort = Plain; shown = false; taken = false })
  unfolding same is_unknown stated_type many_of shown is_some sort_said
  unknown-unlisted e = rw (← e) (record { code = sym unprocessed-code; many = refl; sort = refl; shown = refl; taken = refl })

shown_by : (t : List ℕ) → is_unknown t ≡ false → (b : Bool) → is_some (pick (is_unknown t or b) none (some t)) ≡ not b
unfolding is_some
shown_by t u true = rw u
shown_by t u false = rw u

-- a type that is stated
module _ (n t : List ℕ) {c : ℕ} {s : Sort} (u : is_unknown t ≡ false) (k : c ≡ code_named t) (o : sort_said s ≡ sort_of n c) where
  pub stated-listed : {r : Option Row} {d : ℕ} {m b : Bool} → some (row d m) ≡ r → b ≡ not (eqb d c) → Rules r n t (record { code = c; many = m; sort = s; shown = b; taken = false })
  unfolding stated_type code_of type_of many_of shown is_default
  stated-listed {r} {d} {m} {b} e f = rw (← e) (record { code = rw u k; many = refl; sort = rw (u, ← k) o; shown = f ∙ ap (λ (x : ℕ). not (eqb d x)) k ∙ sym (shown_by t u (eqb d (code_named t))); taken = rw u })

  pub stated-unlisted : {r : Option Row} → none ≡ r → Rules r n t (record { code = c; many = true; sort = s; shown = true; taken = false })
  unfolding stated_type code_of type_of many_of shown is_default
  stated-unlisted e = rw (← e) (record { code = rw u k; many = refl; sort = rw (u, ← k) o; shown = sym (shown_by t u false); taken = rw u })

-- an answer by the type's text
pub rules-same : {r : Option Row} {n t u : List ℕ} {g : Ruling} → t ≡ u → Rules r n u g → Rules r n t g
rules-same e h = rw e h

-- number 8: by a ruling it is as by row and type
fits-typed : (r : Option Row) (t : List ℕ) (b : Bool) → fits_by (code_of r (some t)) false b ≡ encoding_fits r (some t) b
unfolding fits_by encoding_fits states_plain code_of type_of
fits-typed r t b = refl

fits-untyped : (r : Option Row) (b : Bool) → fits_by (code_of r none) (is_some r) b ≡ encoding_fits r none b
unfolding fits_by encoding_fits states_plain binary_fits is_decoded is_some
fits-untyped none b = rw unprocessed-code
fits-untyped (some q) b = refl

pub fits-ruled : {r : Option Row} {n t : List ℕ} {k : Ruling} → Rules r n t k → (b : Bool) → fits_by k.code k.taken b ≡ encoding_fits r (stated_type t) b
unfolding stated_type
fits-ruled {r} {n} {t} g b = rw (g.code, g.taken) (by (is_unknown t))
  where
    by : (u : Bool) → fits_by (code_of r (pick u none (some t))) (u and is_some r) b ≡ encoding_fits r (pick u none (some t)) b
    by false = fits-typed r t b
    by true = fits-untyped r b

-- number 8
module _ (c : ℕ) (b : Bool) where
  pub fits-binary : (t : Bool) → c ≡ binary → fits_by c t b ≡ b
  unfolding fits_by binary_fits is_decoded
  fits-binary t e = rw (e, or_true_right t, and-true-right b)

  module _ (n : (c ≡ binary) → ⊥) where
    pub fits-taken : {t : Bool} → t ≡ true → fits_by c t b ≡ true
    unfolding fits_by binary_fits
    fits-taken e = rw (ne_eqb c binary n, e)

    pub fits-stated : {t : Bool} → t ≡ false → fits_by c t b ≡ not (is_decoded c b)
    unfolding fits_by binary_fits
    fits-stated e = rw (ne_eqb c binary n, e)
