-- Booleans in either case.
use Prim.Native.Nat.{ℕ}
use mathlib.Core.Path.{◌≡◌, refl}
use mathlib.Core.Bool.{true, false}
use mathlib.Core.List.{List}
use Rattle.octets.specs.Basics.{octets, same}
use Rattle.octets.specs.Classes.{between, is_lower, upper_octet, upper, same_name}
use Rattle.octets.specs.Optional.{or?, is_some, when}
use Rattle.octets.proofs.Cases.{cases}
use Rattle.values.specs.Simple.{boolean_of}
use Rattle.values.specs.Shown.{boolean_shown}

true-name : (s : List ℕ) → same (upper s) (octets "TRUE") ≡ same_name s (octets "TRUE")
unfolding same_name upper upper_octet is_lower between
true-name s = refl

false-name : (s : List ℕ) → same (upper s) (octets "FALSE") ≡ same_name s (octets "FALSE")
unfolding same_name upper upper_octet is_lower between
false-name s = refl

pub boolean-true : (s : List ℕ) → same_name s (octets "TRUE") ≡ true → is_some (boolean_of (upper s)) ≡ true
unfolding boolean_of
boolean-true s h = rw (true-name s, h) (unfold when or? is_some in refl)

pub boolean-other : (s : List ℕ) → same_name s (octets "TRUE") ≡ false → is_some (boolean_of (upper s)) ≡ same_name s (octets "FALSE")
unfolding boolean_of
boolean-other s h = rw (true-name s, false-name s, h) (cases (same_name s (octets "FALSE"))
    (λ e. rw e (unfold when or? is_some in refl))
    (λ e. rw e (unfold when or? is_some in refl)))

pub shown-true : (s : List ℕ) → same_name s (octets "TRUE") ≡ true → octets "true" ≡ boolean_shown s
unfolding boolean_shown
shown-true s h = rw (true-name s, h)

pub shown-other : (s : List ℕ) → same_name s (octets "TRUE") ≡ false → octets "false" ≡ boolean_shown s
unfolding boolean_shown
shown-other s h = rw (true-name s, h)
