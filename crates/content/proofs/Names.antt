-- Names in either case: they compare alike in lowercase, and one in lowercase comes back from uppercase.
use Prim.Native.Nat.{ℕ}
use mathlib.Core.Path.{◌≡◌, sym, ap, ◌∙◌}
use mathlib.Core.Bool.{true}
use mathlib.Core.List.{List}
use Rattle.octets.specs.Basics.{all, same, filled}
use Rattle.octets.specs.Classes.{lower_name_octet, is_lower_name, upper, lower, same_name}
use Rattle.octets.proofs.Cases.{both, alike}
use Rattle.octets.proofs.Classes.{same-is, same-itself, lower-name-stays, upper-lower as upper-of-lower, lower-upper as lower-of-upper}

pub lower-upper : (n : List ℕ) → is_lower_name n ≡ true → lower (upper n) ≡ n
unfolding is_lower_name
lower-upper n h = lower-of-upper n ∙ lower-name-stays n (both (filled n) (all lower_name_octet n) h).1

-- what one change of case makes alike, another does too
through : (f g : List ℕ → List ℕ) → ((s : List ℕ) → f (g s) ≡ f s) → (a b : List ℕ) → same (g a) (g b) ≡ true → same (f a) (f b) ≡ true
through f g h a b e =
    let k : f a ≡ f b = sym (h a) ∙ ap f (same-is (g a) (g b) e) ∙ h b in
    rw k (same-itself (f b))

pub same-lower : (a b : List ℕ) → same_name a b ≡ same (lower a) (lower b)
unfolding same_name
same-lower a b = alike (same (upper a) (upper b)) (same (lower a) (lower b)) (through lower upper lower-of-upper a b) (through upper lower upper-of-lower a b)
