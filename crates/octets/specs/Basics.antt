-- Octets as text, choice and connectives that compute, and tests over lists.
use Rattle.std.specs.Prelude.{ℕ, Bool, true, false, not, List, [], ◌∷◌, eqb}
use Prim.Native.Char.{code}
use Prim.Native.String.{String, [] as []ˢ, ◌∷◌ as ◌∷ˢ◌}

-- the octets of an ASCII text
abbrev pub octets : String → List ℕ
octets []ˢ = []
octets (c ∷ˢ s) = code c ∷ octets s

-- if b then x else y
abbrev pub pick : {A : Type 0} → Bool → A → A → A
pick true x y = x
pick false x y = y

infixr 35 ◌and◌
abbrev pub ◌and◌ : Bool → Bool → Bool
true and b = b
false and b = false

infixr 30 ◌or◌
abbrev pub ◌or◌ : Bool → Bool → Bool
true or b = true
false or b = b

unfoldable pub all : {A : Type 0} → (A → Bool) → List A → Bool
all p [] = true
all p (x ∷ xs) = p x and all p xs

unfoldable pub any : {A : Type 0} → (A → Bool) → List A → Bool
any p [] = false
any p (x ∷ xs) = p x or any p xs

-- each element has the property
abbrev pub All {ℓ} : {A : Type ℓ} → (A → Type 0) → List A → Type 0
All P [] = Unit {0}
All P (x ∷ xs) = P x × All P xs

-- one or more
unfoldable pub filled : {A : Type 0} → List A → Bool
filled [] = false
filled (x ∷ xs) = true

-- exactly one
unfoldable pub single : {A : Type 0} → List A → Bool
single [] = false
single (x ∷ xs) = not (filled xs)

-- the same octets
unfoldable pub same : List ℕ → List ℕ → Bool
same [] [] = true
same [] (y ∷ ys) = false
same (x ∷ xs) [] = false
same (x ∷ xs) (y ∷ ys) = eqb x y and same xs ys

-- n is one of the texts
unfoldable pub among : List ℕ → List (List ℕ) → Bool
among n ns = any (same n) ns

-- some text stands twice
unfoldable pub twice : List (List ℕ) → Bool
twice [] = false
twice (n ∷ ns) = among n ns or twice ns
