-- The types' names and codes.
use Prim.Native.Nat.{ℕ, zero, suc, ◌+◌, ◌-◌, ◌≤◌, ◌<◌}
use mathlib.Core.Path.{◌≡◌, refl, sym}
use mathlib.Core.Bool.{Bool, true, false, not}
use mathlib.Core.List.{List, [], ◌∷◌}
use native.Mathlib.Omega.{arith}
use borrow.Author.Tests.{eqb-true, eqb-false, not-true}
use lib.Dec.{eqb}
use lib.ListN.{length, get_or, get_or-eq_default}
use Rattle.octets.specs.Basics.{octets, ◌and◌, ◌or◌, all, filled, same}
use Rattle.octets.specs.Classes.{between, is_lower, is_digit, lower_name_octet, is_lower_name, lower, upper_octet, upper}
use Rattle.octets.proofs.Cases.{cases, same?, both, either}
use Rattle.octets.proofs.Classes.{same-is}
use Rattle.octets.specs.Optional.{given}
use Rattle.types.specs.Table.{Row, find}
use Rattle.types.specs.Reading.{numbered, types}
use Rattle.types.specs.Codes.{type_names, type_name, place_from, code_named}
use Rattle.types.proofs.Names.{same-lower}

-- names that are all lowercase
lower_names : List (List ℕ) → Bool
lower_names ns = all (λ n. all lower_name_octet n) ns

-- the place of a name in either case among lowercase ones is what their rows say of it
place_found : (k : ℕ) (s : List ℕ) (ns : List (List ℕ)) → lower_names ns ≡ true
    → place_from k (lower s) ns ≡ given 0 (λ (r : Row). r.code) (find (numbered k ns) s)
unfolding place_from find numbered given lower_names all
place_found k s [] h = refl
place_found k s (n ∷ ns) h =
    let b = both (all lower_name_octet n) (lower_names ns) h in
    rw (same-lower s n b.0) (cases (same (upper n) (upper s)) (λ e. rw e) (λ e. rw e (place_found (suc k) s ns b.1)))

type-names-lower : lower_names type_names ≡ true
unfolding lower_names type_names all lower_name_octet is_lower is_digit between
type-names-lower = refl

pub code-found : (s : List ℕ) → code_named (lower s) ≡ given 0 (λ (r : Row). r.code) (find types s)
unfolding code_named types
code-found s = place_found 1 s type_names type-names-lower

-- "unknown" in either case
pub unknown-either : (s : List ℕ) → same (lower s) (octets "unknown") ≡ same (octets "UNKNOWN") (upper s)
unfolding all lower_name_octet is_lower is_digit between upper upper_octet
unknown-either s = same-lower s (octets "unknown") refl

-- a test that is computed for each number below n
passed : (ℕ → Bool) → ℕ → Bool
passed p zero = true
passed p (suc n) = p n and passed p n

at : (p : ℕ → Bool) (n c : ℕ) → c < n → passed p n ≡ true → p c ≡ true
unfolding passed
at p zero c h e = absurd (omega arith)
at p (suc n) c h e =
    let b = both (p n) (passed p n) e in
    same? c n (λ q. rw q b.0) (λ q. at p n c (less (eqb-false c n q)) b.1)
  where
    less : (c ≡ n → ⊥) → c < n
    less q = omega arith

-- each of the fourteen has a lowercase name, which is not "unknown", and the name has the code; 0 has no name
named : ℕ → Bool
named c = eqb (code_named (type_name c)) c and not (same (type_name c) (octets "unknown")) and (eqb c 0 or is_lower_name (type_name c))

all_named : passed named 15 ≡ true
unfolding passed named code_named type_name type_names place_from same is_lower_name filled all lower_name_octet is_lower is_digit between
all_named = refl

a-name : (c : ℕ) → c ≤ 14 → (eqb (code_named (type_name c)) c ≡ true) × (not (same (type_name c) (octets "unknown")) ≡ true) × ((eqb c 0 or is_lower_name (type_name c)) ≡ true)
unfolding named
a-name c h =
    let n = both (eqb (code_named (type_name c)) c) (not (same (type_name c) (octets "unknown")) and (eqb c 0 or is_lower_name (type_name c))) (at named 15 c (omega arith) all_named) in
    let m = both (not (same (type_name c) (octets "unknown"))) (eqb c 0 or is_lower_name (type_name c)) n.1 in
    (n.0, m.0, m.1)

pub code-of-name : (c : ℕ) → c ≤ 14 → code_named (type_name c) ≡ c
code-of-name c h = eqb-true (code_named (type_name c)) c (a-name c h).0

pub not-unknown : (c : ℕ) → c ≤ 14 → same (type_name c) (octets "unknown") ≡ false
not-unknown c h = not-true (same (type_name c) (octets "unknown")) (a-name c h).1

pub name-lower : (c : ℕ) → 1 ≤ c → c ≤ 14 → is_lower_name (type_name c) ≡ true
name-lower c l h = either (eqb c 0) (is_lower_name (type_name c)) (a-name c h).2 (λ z. absurd (omega (arith, eqb-true c 0 z))) (λ e. e)

-- a name that has a code is the name of that code
place_is : (k c : ℕ) (t : List ℕ) (ns : List (List ℕ)) → place_from (suc k) t ns ≡ suc c → (k ≤ c) × (get_or ns (c - k) [] ≡ t) × (c < k + length ns)
unfolding place_from
place_is k c t [] e = absurd (omega arith)
place_is k c t (n ∷ ns) e = cases (same t n)
    (λ s. let q : suc k ≡ suc c = rw s at e in (omega arith, rw (first q) (sym (same-is t n s)), omega arith))
    (λ s. let r = place_is (suc k) c t ns (rw s at e) in let h = r.0 in (omega arith, rw (later h) r.1, omega (arith, r.2)))
  where
    first : suc k ≡ suc c → c - k ≡ 0
    first q = omega arith

    later : suc k ≤ c → c - k ≡ suc (c - suc k)
    later h = omega arith

fourteen : length type_names ≡ 14
unfolding type_names
fourteen = refl

coded : (t : List ℕ) (c : ℕ) → code_named t ≡ suc c → (type_name (suc c) ≡ t) × (suc c ≤ 14)
unfolding code_named type_name
coded t c e =
    let r = place_is 0 c t type_names e in
    let z : c - 0 ≡ c = omega arith in
    (rw z at r.1, omega (arith, r.2, fourteen))

module _ (t : List ℕ) where
  pub name-of-code : (code_named t ≡ 0 → ⊥) → type_name (code_named t) ≡ t
  name-of-code n = by (code_named t) refl
    where
      by : (c : ℕ) → code_named t ≡ c → type_name c ≡ t
      by zero e = absurd (n e)
      by (suc c) e = (coded t c e).0

pub nameless : (c : ℕ) → 14 < c → type_name c ≡ []
unfolding type_name
nameless c h = get_or-eq_default ([] ∷ type_names) [] {n = c} (omega (arith, fourteen))

pub code-of-none : (c : ℕ) → 14 < c → code_named (type_name c) ≡ 0
code-of-none c h = rw (nameless c h) (unfold code_named place_from type_names same in refl)

pub code-of-other : (c : ℕ) → (1 ≤ c → c ≤ 14 → ⊥) → code_named (type_name c) ≡ 0
code-of-other zero h = code-of-name 0 (omega arith)
code-of-other (suc c) h = code-of-none (suc c) (beyond h)
  where
    beyond : (1 ≤ suc c → suc c ≤ 14 → ⊥) → 14 < suc c
    beyond h = omega (arith, h)
