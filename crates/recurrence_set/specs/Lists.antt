-- Lists of numbers, and what passes a test. What is bound by `let` is computed only where it is looked at, so the first of many are found without
-- the rest.
use Rattle.std.specs.Prelude.{ℕ, zero, suc, ◌-◌, Bool, List, [], ◌∷◌}
use Rattle.octets.specs.Basics.{pick}

-- the n numbers from a on
unfoldable pub numbers_from : ℕ → ℕ → List ℕ
numbers_from zero a = []
numbers_from (suc n) a = let rest = numbers_from n (suc a) in a ∷ rest

-- those that pass a test
unfoldable pub only : {A : Type 0} → (A → Bool) → List A → List A
only p [] = []
only p (x ∷ xs) = let rest = only p xs in pick (p x) (x ∷ rest) rest

-- those before the first that fails a test
unfoldable pub while : {A : Type 0} → (A → Bool) → List A → List A
while p [] = []
while p (x ∷ xs) = let rest = while p xs in pick (p x) (x ∷ rest) []

-- of the numbers from a on and below l, those that pass a test
unfoldable pub due : (ℕ → Bool) → ℕ → ℕ → List ℕ
due p l a = only p (numbers_from (l - a) a)
