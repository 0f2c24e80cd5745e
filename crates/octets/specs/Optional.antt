-- Values that may be missing.
use Rattle.std.specs.Prelude.{Bool, true, false, List, [], ◌∷◌, Some, None}
use Rattle.std.proofs.Math.Option.{Option, none, some}
use Rattle.std.specs.declared.option.Option as code

unfoldable pub map? : {A B : Type 0} → (A → B) → Option A → Option B
map? f none = none
map? f (some a) = some (f a)

unfoldable pub both? : {A B C : Type 0} → (A → B → C) → Option A → Option B → Option C
both? f none y = none
both? f (some a) none = none
both? f (some a) (some b) = some (f a b)

unfoldable pub then? : {A B : Type 0} → Option A → (A → Option B) → Option B
then? none f = none
then? (some a) f = f a

-- the first, or else the second
unfoldable pub or? : {A : Type 0} → Option A → Option A → Option A
or? none y = y
or? (some a) y = some a

unfoldable pub is_some : {A : Type 0} → Option A → Bool
is_some none = false
is_some (some a) = true

-- a, where the test is passed
unfoldable pub when : {A : Type 0} → Bool → A → Option A
when true a = some a
when false a = none

-- what is there, where it passes the test
unfoldable pub guard : {A : Type 0} → (A → Bool) → Option A → Option A
guard p none = none
guard p (some a) = when (p a) a

-- it is there, and passes the test
unfoldable pub holds : {A : Type 0} → (A → Bool) → Option A → Bool
holds p none = false
holds p (some a) = p a

-- what f makes of it, or else e
unfoldable pub given : {A B : Type 0} → B → (A → B) → Option A → B
given e f none = e
given e f (some a) = f a

-- f at each; none, where it is none at one of them
unfoldable pub each : {A B : Type 0} → (A → Option B) → List A → Option (List B)
each f [] = some []
each f (x ∷ xs) = both? ◌∷◌ (f x) (each f xs)

-- what the code's own Option says
abbrev pub said : {A : Type 0} → code.Option A → Option A
said None = none
said (Some a) = some a
