-- Base64: the table of sextets, and decoding group by group.
use Prim.Native.Nat.{ℕ, zero, suc, ◌+◌, ◌*◌, ◌/◌, ◌%◌, ◌≤◌, ◌<◌}
use mathlib.Core.Path.{◌≡◌, sym, ap, ◌∙◌}
use mathlib.Core.Bool.{true, false}
use mathlib.Core.List.{List, [], ◌∷◌, ◌++◌, append_assoc}
use mathlib.Core.Option.{none, some}
use native.Mathlib.Nat.{add-zero}
use native.Mathlib.Omega.{arith}
use lib.Dec.{eqb}
use lib.ListN.{get_or}
use Rattle.octets.specs.Basics.{all, All}
use Rattle.octets.specs.Optional.{when}
use Rattle.octets.specs.Classes.{is_upper, is_lower, is_digit}
use Rattle.octets.proofs.Cases.{cases, all-All}
use Rattle.octets.proofs.Classes.{between-true}
use Rattle.values.specs.Simple.{base64_octet}
use Rattle.values.specs.Base64.{sextet, first_octet, second_octet, third_octet, groups_decoded}
use Rattle.values.specs.Decoding.{decoded_behind, entry, entries_from, sextets}

-- the table has an octet's entry at its place
entries_at : (c n i : ℕ) → i < n → get_or (entries_from c n) i 0 ≡ entry (c + i)
unfolding entries_from
entries_at c zero i h = absurd (omega arith)
entries_at c (suc n) zero h = ap entry (sym (add-zero c))
entries_at c (suc n) (suc i) h = let e : suc c + i ≡ c + suc i = omega arith in entries_at (suc c) n i (omega arith) ∙ ap entry e

table_at : (c : ℕ) → c < 256 → get_or sextets c 0 ≡ entry c
unfolding sextets
table_at c h = let e : 0 + c ≡ c = omega arith in entries_at 0 256 c h ∙ ap entry e

-- six bits
sextet-small : (c : ℕ) → sextet c ≤ 63
unfolding sextet is_upper is_lower is_digit
sextet-small c = cases (is_upper c)
    (λ u. rw u (omega (arith, between-true 65 90 c u)))
    (λ u. rw u (cases (is_lower c)
    (λ l. rw l (omega (arith, between-true 97 122 c l)))
    (λ l. rw l (cases (is_digit c)
    (λ d. rw d (omega (arith, between-true 48 57 c d)))
    (λ d. rw d (cases (eqb c 43) (λ e. rw e (omega arith)) (λ e. rw e (omega arith))))))))

module _ (c : ℕ) where
  entry_in : base64_octet c ≡ true → entry c ≡ sextet c
  unfolding entry
  entry_in h = rw h

  entry-out : base64_octet c ≡ false → entry c ≡ 255
  unfolding entry
  entry-out h = rw h

  -- an octet of the alphabet has a small entry, and no other has
  pub entry-small : base64_octet c ≡ true → entry c ≤ 63
  entry-small h = omega (arith, entry_in h, sextet-small c)

  entry-octet : entry c ≤ 255
  entry-octet = cases (base64_octet c) (λ h. omega (arith, entry-small h)) (λ h. omega (arith, entry-out h))

  pub small-entry : entry c ≤ 252 → base64_octet c ≡ true
  small-entry l = cases (base64_octet c) (λ h. h) (λ h. absurd (omega (arith, entry-out h)))

-- an entry of the table is an octet
module _ (t : List ℕ) (c : ℕ) (e : t ≡ sextets) (h : c < 256) where
  pub looked-up : get_or t c 0 ≡ entry c
  looked-up = ap (λ (l : List ℕ). get_or l c 0) e ∙ table_at c h

  pub looked-octet : get_or t c 0 ≤ 255
  looked-octet = omega (arith, looked-up, entry-octet c)

-- the octets of a group by four of the table's entries
abbrev pub first : ℕ → ℕ → ℕ
first a b = a * 4 + b / 16

abbrev pub second : ℕ → ℕ → ℕ
second b c = (b % 16) * 16 + c / 4

abbrev pub third : ℕ → ℕ → ℕ
third c d = (c % 4) * 64 + d

module _ (a b : ℕ) (h : base64_octet a ≡ true) (k : base64_octet b ≡ true) where
  first_by : first_octet a b ≡ first (entry a) (entry b)
  unfolding first_octet
  first_by = rw (entry_in a h, entry_in b k)

  second-by : second_octet a b ≡ second (entry a) (entry b)
  unfolding second_octet
  second-by = rw (entry_in a h, entry_in b k)

  third-by : third_octet a b ≡ third (entry a) (entry b)
  unfolding third_octet
  third-by = rw (entry_in a h, entry_in b k)

-- octets that do not all belong to the alphabet stand for nothing
stands-not : (done s : List ℕ) → (All (λ x. base64_octet x ≡ true) s → ⊥) → decoded_behind done s ≡ none
unfolding decoded_behind when
stands-not done s f = cases (all base64_octet s) (λ e. absurd (f (all-All base64_octet s e))) (λ e. rw e)

module _ (done : List ℕ) (a b : ℕ) where
  pub no-two : (s : List ℕ) → 126 < entry a + entry b → decoded_behind done (a ∷ b ∷ s) ≡ none
  no-two s h = stands-not done (a ∷ b ∷ s) (λ k. omega (arith, entry-small a k.0, entry-small b k.1.0))

  pub no_third : (c : ℕ) (s : List ℕ) → 63 < entry c → decoded_behind done (a ∷ b ∷ c ∷ s) ≡ none
  no_third c s h = stands-not done (a ∷ b ∷ c ∷ s) (λ k. omega (arith, entry-small c k.1.1.0))

  pub no-group : (c d : ℕ) (s : List ℕ) → 252 < entry a + entry b + entry c + entry d → decoded_behind done (a ∷ b ∷ c ∷ d ∷ s) ≡ none
  no-group c d s h = stands-not done (a ∷ b ∷ c ∷ d ∷ s) (λ k. omega (arith, entry-small a k.0, entry-small b k.1.0, entry-small c k.1.1.0, entry-small d k.1.1.1.0))

  -- two, three or four that do
  module _ (h : base64_octet a ≡ true) (k : base64_octet b ≡ true) where
    pub two-decoded : decoded_behind done (a ∷ b ∷ []) ≡ some (done ++ first (entry a) (entry b) ∷ [])
    unfolding decoded_behind when all groups_decoded
    two-decoded = rw (h, k, first_by a b h k)

    module _ (c : ℕ) (l : base64_octet c ≡ true) where
      pub three-decoded : decoded_behind done (a ∷ b ∷ c ∷ []) ≡ some (done ++ first (entry a) (entry b) ∷ [] ++ second (entry b) (entry c) ∷ [])
      unfolding decoded_behind when all groups_decoded
      three-decoded = rw (h, k, l, first_by a b h k, second-by b c k l, append_assoc)

      pub four-decoded : (d : ℕ) → base64_octet d ≡ true → (s : List ℕ)
          → decoded_behind done (a ∷ b ∷ c ∷ d ∷ s) ≡ decoded_behind (done ++ first (entry a) (entry b) ∷ [] ++ second (entry b) (entry c) ∷ [] ++ third (entry c) (entry d) ∷ []) s
      unfolding decoded_behind when all groups_decoded
      four-decoded d m s = rw (h, k, l, m, first_by a b h k, second-by b c k l, third-by c d l m) (ap (when (all base64_octet s)) (simp append_assoc))
