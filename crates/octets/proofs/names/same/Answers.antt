-- `octets::same` meets its contract.
use mathlib.Core.Path.{◌≡◌, refl, ap, ◌∙◌}
use mathlib.Core.List.{List, [], ◌∷◌}
use mathlib.Core.Bool.{Bool}
use Prim.Native.Nat.{ℕ}
use lib.Dec.{eqb}
use Rattle.std.specs.Str.{bytes_eq}
use Rattle.octets.specs.Basics.{◌and◌, same}
use Rattle.octets.proofs.names.same.Goals as goal

-- `==` of slices is `same`
equal : (a b : List ℕ) → bytes_eq a b ≡ same a b
unfolding same
equal [] [] = refl
equal [] (y ∷ b) = refl
equal (x ∷ a) [] = refl
equal (x ∷ a) (y ∷ b) = ap (λ (t : Bool). eqb x y and t) (equal a b)

pub returns : goal.returns
returns c = c.eq.ensures ∙ equal c.args.a.now c.args.b.now
