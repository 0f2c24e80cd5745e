-- Texts cut at an octet, and put together with it.
use Rattle.std.specs.Prelude.{ℕ, Bool, true, false, List, [], ◌∷◌, ◌++◌, eqb}

-- an octet in front of the first piece
unfoldable pub onto : ℕ → List (List ℕ) → List (List ℕ)
onto x [] = (x ∷ []) ∷ []
onto x (l ∷ ls) = (x ∷ l) ∷ ls

-- a new piece in front, or x in front of the first one
unfoldable pub cut : Bool → ℕ → List (List ℕ) → List (List ℕ)
cut true x ls = [] ∷ ls
cut false x ls = onto x ls

-- the pieces between the octets `sep`, one at least
unfoldable pub split : ℕ → List ℕ → List (List ℕ)
split sep [] = [] ∷ []
split sep (x ∷ xs) = cut (eqb x sep) x (split sep xs)

-- pieces with `sep` between them
unfoldable pub joined : ℕ → List (List ℕ) → List ℕ
joined sep [] = []
joined sep (l ∷ []) = l
joined sep (l ∷ m ∷ ls) = l ++ sep ∷ joined sep (m ∷ ls)
