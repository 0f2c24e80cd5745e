-- Names in either case, and the sort of a value by the type's code.
use Prim.Native.Nat.{ℕ, ◌<◌}
use mathlib.Core.Path.{◌≡◌, refl, sym, ap, ◌∙◌}
use mathlib.Core.Bool.{false}
use mathlib.Core.List.{List, [], ◌∷◌}
use native.Mathlib.Omega.{arith}
use borrow.Author.Tests.{eq-eqb, ne_eqb, eqb-true, leb-true, leb-false}
use lib.Dec.{eqb, leb}
use Rattle.octets.specs.Basics.{octets, pick, same}
use Rattle.octets.specs.Classes.{between, is_upper, upper_octet, lower_octet, upper, lower, same_name}
use Rattle.octets.proofs.Cases.{alike, cases}
use Rattle.octets.proofs.Classes.{upper-of-lower, lower-of-upper}
use Rattle.types.specs.Codes.{type_name, code_named}
use Rattle.types.proofs.Types.{code-of-name, code-of-none}
use Rattle.values.specs.Coded.{sort_said}
use Rattle.values.specs.declared.sorts.Sort as code
use Rattle.values.specs.declared.sorts.Sort.TheVariants.{Plain, Binary, Boolean, Date, DateTime, Duration, Float, Geo, Integer, Period, Recur, Text, Status, Time, UtcOffset}
use Rattle.values.specs.Sorts.{Sort, plain, binary, boolean, date, date_time, duration, float, geo, integer, period, recur, text, status, time, utc_offset, sort_of}

octet-case : (c d : ℕ) → eqb (lower_octet c) (lower_octet d) ≡ eqb (upper_octet c) (upper_octet d)
octet-case c d = alike (eqb (lower_octet c) (lower_octet d)) (eqb (upper_octet c) (upper_octet d))
    (λ e. eq-eqb _ _ (sym (upper-of-lower c) ∙ ap upper_octet (eqb-true _ _ e) ∙ upper-of-lower d))
    (λ e. eq-eqb _ _ (sym (lower-of-upper c) ∙ ap lower_octet (eqb-true _ _ e) ∙ lower-of-upper d))

-- names are the same in lowercase as in uppercase
pub same_case : (a b : List ℕ) → same (lower a) (lower b) ≡ same_name a b
unfolding same lower upper same_name
same_case [] [] = refl
same_case [] (d ∷ b) = refl
same_case (c ∷ a) [] = refl
same_case (c ∷ a) (d ∷ b) = rw (octet-case c d, same_case a b)

pub geo-name : (n : List ℕ) → same (lower n) (octets "geo") ≡ same_name n (octets "GEO")
geo-name n = unfold lower lower_octet is_upper between in same_case n (octets "GEO")

pub status-name : (n : List ℕ) → same (lower n) (octets "request-status") ≡ same_name n (octets "REQUEST-STATUS")
status-name n = unfold lower lower_octet is_upper between in same_case n (octets "REQUEST-STATUS")

-- the name of a property picks among the values of a float and of a text
unfoldable pub named : List ℕ → Sort → Sort
named n plain = plain
named n binary = binary
named n boolean = boolean
named n date = date
named n date_time = date_time
named n duration = duration
named n float = pick (same_name n (octets "GEO")) geo float
named n geo = geo
named n integer = integer
named n period = period
named n recur = recur
named n text = pick (same_name n (octets "REQUEST-STATUS")) status text
named n status = status
named n time = time
named n utc_offset = utc_offset

no-geo : same [] (octets "geo") ≡ false
unfolding same
no-geo = refl

no-status : same [] (octets "request-status") ≡ false
unfolding same
no-status = refl

sort-named : (n : List ℕ) (c : ℕ) → sort_of (lower n) c ≡ named n (sort_of [] c)
unfolding sort_of named
sort-named n c = rw (geo-name n, status-name n)
    (cases (eqb c 1) (λ e. rw e)
    (λ e. rw e (cases (eqb c 2) (λ e. rw e)
    (λ e. rw e (cases (eqb c 4) (λ e. rw e)
    (λ e. rw e (cases (eqb c 5) (λ e. rw e)
    (λ e. rw e (cases (eqb c 6) (λ e. rw e)
    (λ e. rw e (cases (eqb c 7) (λ e. rw (e, no-geo))
    (λ e. rw e (cases (eqb c 8) (λ e. rw e)
    (λ e. rw e (cases (eqb c 9) (λ e. rw e)
    (λ e. rw e (cases (eqb c 10) (λ e. rw e)
    (λ e. rw e (cases (eqb c 11) (λ e. rw (e, no-status))
    (λ e. rw e (cases (eqb c 12) (λ e. rw e)
    (λ e. rw e (cases (eqb c 14) (λ e. rw e)
    (λ e. rw e))))))))))))))))))))))))

-- what is of no type is plain
sort-beyond : (c : ℕ) → 14 < c → sort_of [] c ≡ plain
unfolding sort_of
sort-beyond c h = rw (ne_eqb c 1 (λ e. omega arith), ne_eqb c 2 (λ e. omega arith), ne_eqb c 4 (λ e. omega arith), ne_eqb c 5 (λ e. omega arith), ne_eqb c 6 (λ e. omega arith), ne_eqb c 7 (λ e. omega arith), ne_eqb c 8 (λ e. omega arith), ne_eqb c 9 (λ e. omega arith), ne_eqb c 10 (λ e. omega arith), ne_eqb c 11 (λ e. omega arith), ne_eqb c 12 (λ e. omega arith), ne_eqb c 14 (λ e. omega arith))

sort-none : sort_of [] 0 ≡ plain
unfolding sort_of
sort-none = refl

-- a code that no type has is as none
sort-known : (c : ℕ) → sort_of [] (code_named (type_name c)) ≡ sort_of [] c
sort-known c = cases (leb c 14)
    (λ h. ap (sort_of []) (code-of-name c (leb-true c 14 h)))
    (λ h. ap (sort_of []) (code-of-none c (leb-false c 14 h)) ∙ sort-none ∙ sym (sort-beyond c (leb-false c 14 h)))

-- the sort of a value, by the code of the type that its code has
pub sort-by : (n : List ℕ) (c k : ℕ) (x y : code.Sort) → k ≡ code_named (type_name c) → sort_said x ≡ sort_of [] k → sort_said y ≡ named n (sort_said x) → sort_said y ≡ sort_of (lower n) c
sort-by n c k x y d e f = f ∙ ap (named n) (e ∙ ap (sort_of []) d ∙ sort-known c) ∙ sym (sort-named n c)

-- other values have the sort of their type, whatever the name
pub plainly-named : (n : List ℕ) (x : code.Sort) → (x ≡ Float → ⊥) → (x ≡ Text → ⊥) → named n (sort_said x) ≡ sort_said x
unfolding named sort_said
plainly-named n Plain f t = refl
plainly-named n Binary f t = refl
plainly-named n Boolean f t = refl
plainly-named n Date f t = refl
plainly-named n DateTime f t = refl
plainly-named n Duration f t = refl
plainly-named n Float f t = absurd (f refl)
plainly-named n Geo f t = refl
plainly-named n Integer f t = refl
plainly-named n Period f t = refl
plainly-named n Recur f t = refl
plainly-named n Text f t = absurd (t refl)
plainly-named n Status f t = refl
plainly-named n Time f t = refl
plainly-named n UtcOffset f t = refl

-- any other code
pub plain-sort : (n : List ℕ) (c : ℕ) → (c ≡ 1 → ⊥) → (c ≡ 2 → ⊥) → (c ≡ 4 → ⊥) → (c ≡ 5 → ⊥) → (c ≡ 6 → ⊥) → (c ≡ 7 → ⊥) → (c ≡ 8 → ⊥) → (c ≡ 9 → ⊥)
    → (c ≡ 10 → ⊥) → (c ≡ 11 → ⊥) → (c ≡ 12 → ⊥) → (c ≡ 14 → ⊥) → sort_of n c ≡ plain
unfolding sort_of
plain-sort n c k1 k2 k4 k5 k6 k7 k8 k9 k10 k11 k12 k14 =
    rw (ne_eqb c 1 k1, ne_eqb c 2 k2, ne_eqb c 4 k4, ne_eqb c 5 k5, ne_eqb c 6 k6, ne_eqb c 7 k7, ne_eqb c 8 k8, ne_eqb c 9 k9, ne_eqb c 10 k10, ne_eqb c 11 k11, ne_eqb c 12 k12, ne_eqb c 14 k14)
