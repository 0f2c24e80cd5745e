-- What an optional value that is there tells of how it was made.
use Prim.Native.Nat.{ℕ}
use mathlib.Core.Path.{◌≡◌, refl, sym, ap, ◌∙◌}
use mathlib.Core.Bool.{Bool, true, false}
use mathlib.Core.List.{List, [], ◌∷◌}
use mathlib.Core.Option.{Option, none, some}
use native.Mathlib.Omega.{arith}
use Rattle.octets.proofs.Cases.{never}
use Rattle.octets.specs.Optional.{map?, both?, then?, is_some, when, guard, each}

pub missing {ℓ} : {P : Type ℓ} {A : Type 0} {a : A} → ◌≡◌ {A = Option A} none (some a) → P
missing e = let z : ◌≡◌ {A = ℕ} 0 1 = cc in absurd (omega arith)

pub some_same : {A : Type 0} {a b : A} → ◌≡◌ {A = Option A} (some a) (some b) → a ≡ b
some_same e = cc

pub some-when : {A : Type 0} (b : Bool) (a : A) → is_some (when b a) ≡ b
unfolding is_some when
some-when true a = refl
some-when false a = refl

pub none_is : {A : Type 0} (o : Option A) → is_some o ≡ false → o ≡ none
unfolding is_some
none_is none e = refl
none_is (some a) e = never refl e

pub when-is : {A : Type 0} (b : Bool) (a c : A) → when b a ≡ some c → (b ≡ true) × (a ≡ c)
unfolding when
when-is true a c e = (refl, some_same e)
when-is false a c e = missing e

pub when-none : {A : Type 0} (b : Bool) (a : A) → when b a ≡ none → b ≡ false
unfolding is_some
when-none b a e = sym (some-when b a) ∙ ap is_some e

pub when_true : {A : Type 0} (b : Bool) (a : A) → b ≡ true → when b a ≡ some a
unfolding when
when_true b a e = rw e

pub guard-is : {A : Type 0} (p : A → Bool) (o : Option A) (a : A) → guard p o ≡ some a → (o ≡ some a) × (p a ≡ true)
unfolding guard
guard-is p none a e = missing e
guard-is p (some b) a e = let w = when-is (p b) b a e in (ap some w.1, ap p (sym w.1) ∙ w.0)

-- the value is handed to the rest of the argument
pub map_is {ℓ} : {P : Type ℓ} {A B : Type 0} (f : A → B) (o : Option A) (b : B) → map? f o ≡ some b → ((a : A) → o ≡ some a → f a ≡ b → P) → P
unfolding map?
map_is f none b e k = missing e
map_is f (some a) b e k = k a refl (some_same e)

pub both_is {ℓ} : {P : Type ℓ} {A B C : Type 0} (f : A → B → C) (o : Option A) (q : Option B) (c : C) → both? f o q ≡ some c
    → ((a : A) (b : B) → o ≡ some a → q ≡ some b → f a b ≡ c → P) → P
unfolding both?
both_is f none q c e k = missing e
both_is f (some a) none c e k = missing e
both_is f (some a) (some b) c e k = k a b refl refl (some_same e)

pub then_is {ℓ} : {P : Type ℓ} {A B : Type 0} (o : Option A) (f : A → Option B) (b : B) → then? o f ≡ some b → ((a : A) → o ≡ some a → f a ≡ some b → P) → P
unfolding then?
then_is none f b e k = missing e
then_is (some a) f b e k = k a refl e

pub some_is {ℓ} : {P : Type ℓ} {A : Type 0} (o : Option A) → is_some o ≡ true → ((a : A) → o ≡ some a → P) → P
unfolding is_some
some_is none e k = let z : ◌≡◌ {A = ℕ} 0 1 = cc in absurd (omega arith)
some_is (some a) e k = k a refl

pub each_none : {A B : Type 0} (f : A → Option B) (bs : List B) → each f [] ≡ some bs → bs ≡ []
unfolding each
each_none f bs e = sym (some_same e)

pub each-is {ℓ} : {P : Type ℓ} {A B : Type 0} (f : A → Option B) (x : A) (xs : List A) (bs : List B) → each f (x ∷ xs) ≡ some bs
    → ((c : B) (cs : List B) → f x ≡ some c → each f xs ≡ some cs → c ∷ cs ≡ bs → P) → P
unfolding each
each-is f x xs bs e k = both_is ◌∷◌ (f x) (each f xs) bs e k
