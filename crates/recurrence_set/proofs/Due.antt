-- The laws of a search among numbers: those that fail a test may be skipped, and one that passes comes first.
use Prim.Native.Nat.{ℕ, zero, suc, ◌+◌, ◌-◌, ◌≤◌, ◌<◌}
use mathlib.Core.Path.{◌≡◌, refl, sym, ◌∙◌}
use mathlib.Core.Bool.{Bool, true, false}
use mathlib.Core.List.{[], ◌∷◌}
use native.Mathlib.Omega.{arith}
use native.Mathlib.Numerals.{add-one}
use native.Mathlib.Nat.{add-zero}
use native.Mathlib.Decide.{dec_le}
use lib.ListN.{length}
use Rattle.octets.proofs.Cases.{cases}
use Rattle.recurrence_set.specs.Lists.{numbers_from, only, due}
use Rattle.std.specs.Prelude.{Some, None}
use Rattle.std.specs.declared.option.Option as code
use Rattle.recurrence_set.specs.Searches.{First, NextOf}

module _ (p : ℕ → Bool) (l : ℕ) where
  pub past : (a : ℕ) → l ≤ a → due p l a ≡ []
  unfolding due only numbers_from
  past a h = let z : l - a ≡ 0 = omega arith in rw z

  opened : (a : ℕ) → a < l → due p l a ≡ only p (a ∷ numbers_from (l - suc a) (suc a))
  unfolding due numbers_from
  opened a h = let z : l - a ≡ suc (l - suc a) = omega arith in rw z

  pub passes-first : (a : ℕ) → a < l → p a ≡ true → due p l a ≡ a ∷ due p l (a + 1)
  unfolding due only
  passes-first a h e = rw add-one (opened a h ∙ rw e)

  -- behind l there is nothing to skip
  pub fails : (a : ℕ) → (a < l → p a ≡ false) → due p l a ≡ due p l (a + 1)
  fails a f = go (dec_le l a)
    where
      go : Dec (l ≤ a) → due p l a ≡ due p l (a + 1)
      go (yes h) = past a h ∙ sym (past (a + 1) (omega arith))
      go (no h) =
          let e = f (omega arith) in
          rw add-one (opened a (omega arith) ∙ (unfold due only in rw e))

  skips : (n a : ℕ) → ((k : ℕ) → a ≤ k → k < a + n → k < l → p k ≡ false) → due p l a ≡ due p l (a + n)
  skips zero a f = rw add-zero
  skips (suc n) a f =
      let e : a + suc n ≡ a + 1 + n = omega arith in
      fails a (λ h. f a (omega arith) (omega arith) h) ∙ rw e (skips n (a + 1) (λ k x y z. f k (omega arith) (omega arith) z))

  -- what fails from a on up to b may be skipped
  pub skip : (a b : ℕ) → a ≤ b → ((k : ℕ) → a ≤ k → k < b → k < l → p k ≡ false) → due p l a ≡ due p l b
  skip a b h f =
      let e : a + (b - a) ≡ b = omega arith in
      rw e at (skips (b - a) a (λ k x y z. f k x (omega arith) z))

  -- from further on there are not more
  one_fewer : (a : ℕ) → length (due p l (a + 1)) ≤ length (due p l a)
  one_fewer a = go (dec_le l a)
    where
      go : Dec (l ≤ a) → length (due p l (a + 1)) ≤ length (due p l a)
      go (yes h) = rw (past (a + 1) (omega arith)) (omega arith)
      go (no h) = cases (p a)
          (λ e. rw (passes-first a (omega arith) e) (omega arith))
          (λ e. rw (fails a (λ q. e)) (omega arith))

  pub fewer : (n a : ℕ) → length (due p l (a + n)) ≤ length (due p l a)
  fewer zero a = rw add-zero (omega arith)
  fewer (suc n) a =
      let e : a + suc n ≡ a + 1 + n = omega arith in
      rw e (let f = fewer n (a + 1) in let g = one_fewer a in omega arith)

  -- the first that passes: it is the one looked at, it lies further on, there is none, or it is the first from one further on
  pub first-here : (a : ℕ) → p a ≡ true → First p l a a
  first-here a e = record { from = omega arith; same = refl; passes = λ h. e }

  pub first-at : (a b : ℕ) → a ≤ b → ((k : ℕ) → a ≤ k → k < b → k < l → p k ≡ false) → p b ≡ true → First p l a b
  first-at a b h f e = record { from = h; same = skip a b h f; passes = λ g. e }

  pub first-none : (a b : ℕ) → a ≤ b → l ≤ b → ((k : ℕ) → a ≤ k → k < l → p k ≡ false) → First p l a b
  first-none a b h g f = record { from = h; same = skip a b h (λ k x y z. f k x z); passes = λ q. absurd (omega arith) }

  pub first-after : (a b r : ℕ) → a ≤ b → ((k : ℕ) → a ≤ k → k < b → k < l → p k ≡ false) → First p l b r → First p l a r
  first-after a b r h f s =
      let g = s.from in
      record { from = omega arith; same = skip a b h f ∙ s.same; passes = s.passes }

  -- as an Option
  pub nothing-next : (a b : ℕ) → l ≤ b → First p l a b → due p l a ≡ []
  nothing-next a b h f = f.same ∙ past b h

  pub next-after : (a b : ℕ) (o : code.Option ℕ) → a ≤ b → ((k : ℕ) → a ≤ k → k < b → k < l → p k ≡ false) → NextOf p l b o → NextOf p l a o
  next-after a b None h f s = skip a b h f ∙ s
  next-after a b (Some r) h f s = first-after a b r h f s

module _ (p : ℕ → Bool) (l : ℕ) where
  pub first_past : (a : ℕ) → l ≤ a → First p l a a
  first_past a h = record { from = omega arith; same = refl; passes = λ g. absurd (omega arith) }
