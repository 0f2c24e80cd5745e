-- Binary values: groups of four octets, with paddings at the end.
use Prim.Native.Nat.{ℕ, ◌+◌, ◌-◌, ◌%◌, ◌≤◌}
use mathlib.Core.Path.{◌≡◌, refl, sym, ap, ◌∙◌}
use mathlib.Core.Bool.{Bool, true, false}
use mathlib.Core.List.{List, [], ◌∷◌}
use native.Mathlib.Omega.{arith}
use borrow.Author.Tests.{eq-eqb, ne_eqb}
use lib.Dec.{eqb}
use lib.ListN.{length, get_or, take, drop}
use Rattle.std.specs.Cmp.Lexicographic.{pointwise}
use Rattle.std.specs.Option.{MatchOption, unwrap_or}
use Rattle.std.specs.Prelude.{Some, None}
use Rattle.std.specs.declared.option.Option as code
use Rattle.octets.specs.Basics.{all}
use Rattle.octets.proofs.Cases.{cases}
use Rattle.octets.proofs.Positions.{here, ended, upto}
use Rattle.values.specs.Simple.{base64_octet, unpadded, binary_is}
use lib.Seq.{length-take-le, take_all, take-take}

last_is : (s : List ℕ) (n : ℕ) → length s ≡ n + 1 → pointwise eqb (drop n s) (61 ∷ []) ≡ eqb (get_or s n 0) 61
last_is s n h = rw (here s n (omega arith), ended s (n + 1) (omega arith)) (cases (eqb (get_or s n 0) 61) (λ e. rw e) (λ e. rw e))

padded : (s : List ℕ) → pointwise eqb (drop (length s - 1) s) (61 ∷ []) ≡ eqb (get_or s (length s - 1) 0) 61
padded [] = refl
padded (x ∷ s) = last_is (x ∷ s) (length (x ∷ s) - 1) (omega arith)

-- what stands before a padding at the end, where one was stripped, and else all
pub without_last : {R : Type 0} (now : R → List ℕ) (all : R) (o : code.Option R)
    → MatchOption o (pointwise eqb (drop (length (now all) - 1) (now all)) (61 ∷ []) ≡ false) (λ x. (pointwise eqb (drop (length (now all) - 1) (now all)) (61 ∷ []) ≡ true) × (now x ≡ take (length (now all) - 1) (now all)) × (length (now x) + 1 ≡ length (now all)))
    → now (unwrap_or o all) ≡ unpadded (now all)
unfolding unpadded
without_last now all None h = rw (sym (padded (now all)) ∙ h)
without_last now all (Some x) h = rw (sym (padded (now all)) ∙ h.0) h.1

module _ (s : List ℕ) where
  pub no-groups : (length s % 4 ≡ 0 → ⊥) → false ≡ binary_is s
  unfolding binary_is
  no-groups h = rw (ne_eqb _ _ h)

  pub groups : {t : List ℕ} {r : Bool} → length s % 4 ≡ 0 → t ≡ unpadded (unpadded s) → r ≡ all base64_octet t → r ≡ binary_is s
  unfolding binary_is
  groups h f e = rw (eq-eqb _ _ h) (e ∙ ap (all base64_octet) f)

module _ (s : List ℕ) where
  pub unpadded-none : length s ≡ 0 → [] ≡ unpadded s
  unpadded-none h = rw (ended s 0 (omega arith)) (unfold unpadded in refl)

  pub unpadded-last : get_or s (length s - 1) 0 ≡ 61 → take (length s - 1) s ≡ unpadded s
  unfolding unpadded
  unpadded-last h = rw (eq-eqb _ _ h)

  pub unpadded-all : (get_or s (length s - 1) 0 ≡ 61 → ⊥) → take (length s) s ≡ unpadded s
  unfolding unpadded
  unpadded-all h = rw (ne_eqb _ _ h) (take_all (length s) s (omega arith))

  -- n octets stand before the last padding, and m before both
  pub before-both : (n m : ℕ) → n ≤ length s → take n s ≡ unpadded s → m ≤ length (take (n - 0) (drop 0 s)) → take m (take (n - 0) (drop 0 s)) ≡ unpadded (take (n - 0) (drop 0 s))
      → (m ≤ length s) × (take m s ≡ unpadded (unpadded s))
  before-both n m h f k g =
      let e = upto s n in
      let l : m ≤ n = omega (arith, rw e at k, length-take-le n s h) in
      (omega arith, sym (take-take m n s l) ∙ ap (take m) (sym e) ∙ g ∙ ap unpadded (e ∙ f))
