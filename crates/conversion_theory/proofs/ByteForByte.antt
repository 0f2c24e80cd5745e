-- What the claim shuts out: where no line is excepted, the two texts are the same.
use Prim.Native.Nat.{ℕ}
use mathlib.Core.Path.{◌≡◌, refl, ap}
use mathlib.Core.Bool.{true}
use mathlib.Core.List.{List, [], ◌∷◌, map}
use native.Mathlib.Omega.{arith}
use Rattle.types.specs.Table.{Table}
use Rattle.content.specs.Line.{Line, line_of}
use Rattle.content.specs.Lines.{lines_of}
use Rattle.conversion_theory.specs.Tree.{Component}
use Rattle.conversion_theory.specs.Claim.{excepted, Beside, ended, shared, differs, those, Rearranged, older, newer, Agree}

none_of : {A : Type 0} (xs : List A) → Rearranged xs [] → xs ≡ []
unfolding those
none_of [] r = refl
none_of (x ∷ xs) r = let n = r (λ _. true) in absurd (omega (arith, n))

none_differ : {a b : Table} {ls : List Line} {n o : List ℕ} → ls ≡ [] → Beside a b ls n o → n ≡ o
none_differ e ended = refl
none_differ e (shared x b) = ap (λ (t : List ℕ). x ∷ t) (none_differ e b)
none_differ e (differs l p h r b) = let z : ◌≡◌ {A = ℕ} 0 1 = cc in absurd (omega arith)

-- THE LAW
pub same_text : {old new : List ℕ} {tₒ tₙ : Table} {s : List ℕ} {c : Component} (a : Agree old new tₒ tₙ s c)
    → those (excepted tₒ tₙ) (map line_of (lines_of s)) ≡ [] → a.jcal newer ≡ a.jcal older
same_text {tₒ = tₒ} {tₙ = tₙ} {s = s} a e = none_differ (none_of a.differ (rw e at a.each)) a.beside
