-- Values that may be missing: what a result that is there tells of what it was made from, and when there is one.
use mathlib.Core.Path.{◌≡◌, refl}
use mathlib.Core.Bool.{true, false}
use mathlib.Core.Option.{Option, none, some}
use Rattle.std.specs.Prelude.{Some, None}
use Rattle.std.specs.declared.option.Option as code
use Rattle.std.specs.Option.{is_some as is-there, MatchOption}
use Rattle.octets.specs.Optional.{map?, then?, or?, is_some, said}
use Rattle.octets.proofs.Cases.{never}
use Rattle.octets.proofs.Optional.{map_is as mapped, then_is as followed}
pub use Rattle.octets.proofs.Optional.{when-is, guard-is}

-- what is told of a result that is there
pub map_is : {A B : Type 0} (f : A → B) (o : Option A) (b : B) → map? f o ≡ some b → (a : A) × (o ≡ some a) × (f a ≡ b)
map_is f o b e = mapped f o b e (λ a p q. (a, p, q))

pub then_is : {A B : Type 0} (o : Option A) (f : A → Option B) (b : B) → then? o f ≡ some b → (a : A) × (o ≡ some a) × (f a ≡ some b)
then_is o f b e = followed o f b e (λ a p q. (a, p, q))

pub or-tells {ℓ} : {P : Type ℓ} {A : Type 0} (x y : Option A) (a : A) → or? x y ≡ some a → (x ≡ some a → P) → (x ≡ none → y ≡ some a → P) → P
unfolding or?
or-tells none y a e f g = g refl e
or-tells (some b) y a e f g = f e

pub or-none : {A : Type 0} (o : Option A) → or? o none ≡ o
unfolding or?
or-none none = refl
or-none (some a) = refl

-- whether there is a result
pub some_then : {A B : Type 0} (o : Option A) (f : A → Option B) → is_some o ≡ false → is_some (then? o f) ≡ false
unfolding is_some then?
some_then none f e = refl
some_then (some a) f e = never refl e

pub some-map : {A B : Type 0} (f : A → B) (o : Option A) → is_some (map? f o) ≡ is_some o
unfolding is_some map?
some-map f none = refl
some-map f (some a) = refl

pub some-both : {A B C : Type 0} (o : Option A) (f : A → B → C) (p : Option B) → is_some o ≡ true → is_some (then? o (λ a. map? (f a) p)) ≡ is_some p
unfolding is_some then?
some-both none f p e = never e refl
some-both (some a) f p e = some-map (f a) p

-- there is something in the code's own Option where there is in what it says
pub said-some : {A : Type 0} (o : code.Option A) → is-there o ≡ is_some (said o)
unfolding is_some
said-some None = refl
said-some (Some a) = refl

-- what `or_else` gives
pub or-else-said : {A E : Type 0} (o r : code.Option A) (y : Option A) → MatchOption o E (λ x. r ≡ Some x) → (E → said r ≡ y) → said r ≡ or? (said o) y
unfolding or?
or-else-said None r y h e = e h
or-else-said (Some a) r y h e = rw h
