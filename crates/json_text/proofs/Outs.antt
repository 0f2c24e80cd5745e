-- Laws of readings put together: what they give has what their parts give.
use Prim.Native.Nat.{ℕ}
use mathlib.Core.Path.{◌≡◌, refl, ap, ◌∙◌}
use mathlib.Core.Bool.{Bool, true, false}
use mathlib.Core.List.{List}
use Rattle.octets.specs.Basics.{pick}
use Rattle.json_text.specs.Reads.{Out, ok, deep, bad, fmap, and_then}

-- what was read and what is left have P
abbrev pub Gives : {A : Type 0} → (A → List ℕ → Type 0) → Out A → Type 0
Gives P (ok a s) = P a s
Gives P deep = Unit {0}
Gives P bad = Unit {0}

pub gives_then : {A B : Type 0} (P : A → List ℕ → Type 0) (Q : B → List ℕ → Type 0) (o : Out A) (k : A → List ℕ → Out B) → Gives P o → ((a : A) (s : List ℕ) → P a s → Gives Q (k a s)) → Gives Q (and_then o k)
gives_then P Q (ok a s) k h f = f a s h
gives_then P Q deep k h f = tt
gives_then P Q bad k h f = tt

pub gives-map : {A B : Type 0} (P : A → List ℕ → Type 0) (Q : B → List ℕ → Type 0) (g : A → B) (o : Out A) → Gives P o → ((a : A) (s : List ℕ) → P a s → Q (g a) s) → Gives Q (fmap g o)
gives-map P Q g (ok a s) h f = f a s h
gives-map P Q g deep h f = tt
gives-map P Q g bad h f = tt

pub gives-weaker : {A : Type 0} (P Q : A → List ℕ → Type 0) (o : Out A) → Gives P o → ((a : A) (s : List ℕ) → P a s → Q a s) → Gives Q o
gives-weaker P Q (ok a s) h f = f a s h
gives-weaker P Q deep h f = tt
gives-weaker P Q bad h f = tt

pub given : {A : Type 0} (P : A → List ℕ → Type 0) {o : Out A} {a : A} {s : List ℕ} → o ≡ ok a s → Gives P o → P a s
given P e h = rw e at h

-- what is left, by another name
pub left-by : {A : Type 0} {o : Out A} {a : A} {s t : List ℕ} → o ≡ ok a s → s ≡ t → o ≡ ok a t
left-by {a = a} e q = e ∙ ap (ok a) q

-- either way of a choice
pub by : {A : Type 0} (R : A → Type 0) (b : Bool) {x y : A} → (b ≡ true → R x) → (b ≡ false → R y) → R (pick b x y)
by R true f g = f refl
by R false f g = g refl

-- what follows is asked only of what was given
pub then-alike : {A B : Type 0} (o : Out A) (k k' : A → List ℕ → Out B) → Gives (λ a s. k a s ≡ k' a s) o → and_then o k ≡ and_then o k'
then-alike (ok a s) k k' h = h
then-alike deep k k' h = refl
then-alike bad k k' h = refl

pub map-map : {A B C : Type 0} (f : B → C) (g : A → B) (o : Out A) → fmap f (fmap g o) ≡ fmap (λ a. f (g a)) o
map-map f g (ok a s) = refl
map-map f g deep = refl
map-map f g bad = refl

pub map_same : {A : Type 0} (o : Out A) → fmap (λ a. a) o ≡ o
map_same (ok a s) = refl
map_same deep = refl
map_same bad = refl
