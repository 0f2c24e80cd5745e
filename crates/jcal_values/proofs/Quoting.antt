-- Octets that a JSON string holds as they are; and the ends of periods.
use Prim.Native.Nat.{ℕ}
use Prim.Native.Char.{code}
use mathlib.Core.Path.{◌≡◌, refl}
use mathlib.Core.Bool.{Bool, true, false}
use mathlib.Core.List.{List, [], ◌∷◌, ◌++◌}
use mathlib.Core.Option.{Option, none, some}
use Rattle.octets.specs.Basics.{all}
use Rattle.octets.specs.Optional.{is_some, given}
use Rattle.octets.proofs.Cases.{never, both, apart}
use Rattle.json_text.specs.Print.{quoted, print_string}
use Rattle.json_text.proofs.Quotes.{escaped-bare}
use Rattle.octets.specs.Groups.{as_is_octet}
use Rattle.values.specs.Shown.{string_shown}

pub quoted-bare : (xs : List ℕ) → all as_is_octet xs ≡ true → quoted xs ≡ xs ++ code "\"" ∷ []
unfolding all quoted
quoted-bare [] h = refl
quoted-bare (x ∷ xs) h =
    let b = both (as_is_octet x) (all as_is_octet xs) h in
    rw (escaped-bare x b.0, quoted-bare xs b.1)

-- a class without the octets that are escaped
pub bare-class : (p : ℕ → Bool) → p 34 ≡ false → p 92 ≡ false → p 10 ≡ false → p 9 ≡ false → (c : ℕ) → p c ≡ true → as_is_octet c ≡ true
unfolding as_is_octet
bare-class p a b d e c h = rw (apart p c 34 h a, apart p c 92 h b, apart p c 10 h d, apart p c 9 h e)

-- the end of a period: a moment, or what stands there in uppercase
module _ (s : List ℕ) where
  pub end-moment : (o : Option (List ℕ)) → is_some o ≡ true → string_shown o ≡ print_string (given s (λ t. t) o)
  unfolding string_shown is_some given
  end-moment none e = never e refl
  end-moment (some t) e = refl

  pub end-other : (o : Option (List ℕ)) → is_some o ≡ false → print_string s ≡ print_string (given s (λ t. t) o)
  unfolding is_some given
  end-other none e = refl
  end-other (some t) e = never refl e
