-- A table that finds names again: each slot holds both ends of a name, or 0. A name is looked for from its slot on, up to the first slot that is free.
-- `name` says which name a slot holds.
use Rattle.std.specs.Prelude.{ℕ, suc, ◌+◌, ◌-◌, ◌*◌, ◌/◌, ◌%◌, ◌≤◌, ◌<◌, min, ◌≡◌, Bool, false, ◌⊎◌, List, [], ◌∷◌, map, eqb, ltb, leb, length, take, drop, get_or, set}
use Rattle.octets.specs.Basics.{pick, ◌and◌, ◌or◌, same}
use Rattle.octets.specs.Groups.{cased}
use Rattle.octets.specs.declared.names.Case.{Case}
use Rattle.octets.specs.declared.tables.Entering.{Entering}
use Rattle.octets.specs.declared.tables.Entering.TheVariants.{Seen, Stored, Full}

unfoldable pub slot_from : ℕ → List ℕ → ℕ
slot_from h [] = h
slot_from h (x ∷ xs) = slot_from ((h * 15541 + x) % 16381) xs

unfoldable pub slot_of : List ℕ → ℕ
slot_of n = slot_from 0 n

-- how many of these slots are passed by one who looks for the name n
unfoldable pub passed : (ℕ → List ℕ) → List ℕ → List ℕ → ℕ
passed name n [] = 0
passed name n (p ∷ ps) = pick (eqb p 0 or same n (name p)) 0 (suc (passed name n ps))

-- the slot at which that ends: it holds n, or is free, or there is none
unfoldable pub slot_in : (ℕ → List ℕ) → List ℕ → List ℕ → ℕ
slot_in name n table = slot_of n + passed name n (drop (slot_of n) table)

-- the name n stands in these slots, and no free one before it
unfoldable pub stands : (ℕ → List ℕ) → List ℕ → List ℕ → Bool
stands name n [] = false
stands name n (p ∷ ps) = pick (eqb p 0) false (same n (name p) or stands name n ps)

unfoldable pub in_table : (ℕ → List ℕ) → List ℕ → List ℕ → Bool
in_table name n table = stands name n (drop (slot_of n) table)

-- every slot is free
abbrev pub Blank : List ℕ → Type 0
Blank table = (q : ℕ) → get_or table q 0 ≡ 0

-- an end below this fits into a slot
abbrev pub wide : ℕ
wide = 4294967296

-- what a slot holds for a name with these ends; 0 where they do not fit
unfoldable pub slot_for : ℕ → ℕ → ℕ
slot_for from end = pick (leb from end and ltb end wide) (from * wide + end) 0

-- the same for what stands in s from a place up to another
abbrev pub slot_between : List ℕ → ℕ → ℕ → ℕ
slot_between s from end = slot_for (min from (min end (length s))) (min end (length s))

-- the name in s that a slot holds, in the case that names compare in
unfoldable pub name_in : Case → List ℕ → ℕ → List ℕ
name_in case s p = map (cased case) (take (p % wide - p / wide) (drop (p / wide) s))

-- n, for which a slot holds p, is entered into a table: the slot at which its search ends holds n, and nothing changes; or that slot was free and
-- holds p now; or nothing changes, since there is no slot, or none can hold n
abbrev pub Enters : (ℕ → List ℕ) → List ℕ → ℕ → List ℕ → List ℕ → Entering → Type 0
Enters name n p old new Seen = (new ≡ old) × ((get_or old (slot_in name n old) 0 ≡ 0) → ⊥)
Enters name n p old new Stored = ((p ≡ 0) → ⊥) × (name p ≡ n) × (slot_in name n old < length old) × (get_or old (slot_in name n old) 0 ≡ 0) × (new ≡ set old (slot_in name n old) p)
Enters name n p old new Full = (new ≡ old) × (get_or old (slot_in name n old) 0 ≡ 0) × ((length old ≤ slot_in name n old) ⊎ (p ≡ 0))
