-- A value that is sent encoded: the text that is read, and the parameters that stay.
use Prim.Native.Nat.{ℕ}
use mathlib.Core.Path.{◌≡◌, refl}
use mathlib.Core.Bool.{Bool, true, false, not}
use mathlib.Core.List.{List, [], ◌∷◌}
use mathlib.Core.Option.{some}
use lib.Dec.{eqb}
use Rattle.octets.specs.Basics.{◌and◌, any, All}
use Rattle.octets.specs.Utf8.{clean}
use Rattle.octets.proofs.Cases.{cases, both, and-false-right, or-first}
use Rattle.octets.proofs.Optional.{some_same, guard-is}
use Rattle.types.specs.Codes.{unprocessed, binary}
use Rattle.content.specs.Line.{Param}
use Rattle.content.specs.Parameters.{name_twice, encodes, is_encoded, without_encoding, staying}
use Rattle.values.specs.Base64.{binary_fits, is_decoded, base64_of, text_sent}
use Rattle.conversion_theory.specs.Claim.{those}
use Rattle.conversion_theory.proofs.Remaining.{those-All, those-once}

-- the text is clean where the value received is
pub sent-clean : (decodes : Bool) (raw s : List ℕ) → text_sent decodes raw ≡ some s → clean raw ≡ true → clean s ≡ true
unfolding text_sent
sent-clean true raw s e h = (guard-is clean (base64_of raw) s e).1
sent-clean false raw s e h = rw (← some_same e) h

-- what stays of parameters
those-without : (ps : List Param) → without_encoding ps ≡ those (λ p. not (encodes p)) ps
unfolding without_encoding those
those-without [] = refl
those-without (p ∷ ps) = cases (encodes p) (λ e. rw (e, those-without ps)) (λ e. rw (e, those-without ps))

pub staying-All : (decodes : Bool) (P : Param → Type 0) (ps : List Param) → All P ps → All P (staying decodes ps)
unfolding staying
staying-All true P ps h = rw (those-without ps) (those-All (λ p. not (encodes p)) P ps h)
staying-All false P ps h = h

pub staying-once : (decodes : Bool) (ps : List Param) → name_twice ps ≡ false → name_twice (staying decodes ps) ≡ false
unfolding staying
staying-once true ps h = rw (those-without ps) (those-once (λ p. not (encodes p)) ps h)
staying-once false ps h = h

-- a type that is decoded is not binary, and nothing is decoded that is not encoded
other_fits : (c : ℕ) (encoded now : Bool) → is_decoded c encoded ≡ true → binary_fits c now ≡ true
unfolding is_decoded binary_fits
other_fits c encoded now e = or-first now (both (not (eqb c binary)) encoded (both (not (eqb c unprocessed)) (not (eqb c binary) and encoded) e).1).0

none-decoded : (c : ℕ) → is_decoded c false ≡ false
unfolding is_decoded
none-decoded c = rw (and-false-right (not (eqb c binary))) (and-false-right (not (eqb c unprocessed)))

without-plain : (ps : List Param) → is_encoded (without_encoding ps) ≡ false
unfolding is_encoded any without_encoding
without-plain [] = refl
without-plain (p ∷ ps) = cases (encodes p) (λ e. rw e (without-plain ps)) (λ e. rw (e, e) (without-plain ps))

-- THE LAWS: with the parameters that stay, ENCODING fits as before, and nothing is decoded again
module _ (c : ℕ) (ps : List Param) where
  pub stays_fit : binary_fits c (is_encoded ps) ≡ true → binary_fits c (is_encoded (staying (is_decoded c (is_encoded ps)) ps)) ≡ true
  unfolding staying
  stays_fit h = cases (is_decoded c (is_encoded ps)) (λ e. other_fits c (is_encoded ps) (is_encoded (staying (is_decoded c (is_encoded ps)) ps)) e) (λ e. rw e h)

  pub stays_plain : is_decoded c (is_encoded (staying (is_decoded c (is_encoded ps)) ps)) ≡ false
  unfolding staying
  stays_plain = cases (is_decoded c (is_encoded ps)) (λ e. rw (e, without-plain ps) (none-decoded c)) (λ e. rw (e, e))
