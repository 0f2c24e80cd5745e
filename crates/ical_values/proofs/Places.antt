-- What the value at a place is, by its tag and its octets.
use Prim.Native.Nat.{ℕ, ◌+◌}
use mathlib.Core.Path.{◌≡◌, sym, ◌∙◌}
use mathlib.Core.Bool.{Bool, true, false}
use mathlib.Core.List.{List}
use native.Mathlib.Omega.{arith}
use Rattle.octets.specs.Basics.{octets}
use Rattle.octets.specs.Optional.{is_some, holds, given}
use Rattle.octets.specs.Classes.{upper}
use Rattle.json_text.specs.Tree.{null, num, str}
use Rattle.json_text.specs.Tape.{tag_false, tag_true, tag_number, tag_string, tag_end}
use Rattle.tape.specs.Decode.{tag_at, text_at, value_at}
use Rattle.tape.specs.Promise.{TextAt}
use Rattle.tape.specs.declared.Text.{Text}
use Rattle.tape.proofs.Values.{string-is, number_is, string-octets, number-octets, string-some, false-some, true-some, no-string, no-boolean, list-head, list-end}
use Rattle.tape.proofs.Scans.{part}
use Rattle.values.specs.Sorts.{boolean}
use Rattle.values.specs.Simple.{boolean_text}
use Rattle.values.specs.Write.{is_lettered, value_is, value_text}

-- a string, a number
module _ {t : List ℕ} {i : ℕ} {r : Text} (x : TextAt t i r) where
  pub string-value : tag_at t i ≡ tag_string → value_at t i ≡ str (part t r)
  string-value e = rw (x.part, string-is t i e, string-octets (text_at t (i + 1)))

  pub number-value : tag_at t i ≡ tag_number → value_at t i ≡ num (part t r)
  number-value e = rw (x.part, number_is t i e, number-octets (text_at t (i + 1)))

  pub lettered-is : (p : List ℕ → Bool) → tag_at t i ≡ tag_string → is_lettered p (value_at t i) ≡ p (upper (part t r))
  unfolding is_lettered holds
  lettered-is p e = rw (string-some t i e, x.part)

module _ (t : List ℕ) (i : ℕ) where
  -- where a string stands, no group ends
  pub string-there : tag_at t i ≡ tag_string → (tag_at t i ≡ tag_end) → ⊥
  string-there q e = omega arith

  pub no-lettered : (p : List ℕ → Bool) → ((tag_at t i ≡ tag_string) → ⊥) → is_lettered p (value_at t i) ≡ false
  unfolding is_lettered holds
  no-lettered p n = rw (no-string t i n)

  -- no value stands where a group ends
  pub end-null : tag_at t i ≡ tag_end → value_at t i ≡ null
  end-null z = sym (list-head t i) ∙ rw (list-end t i z)

  -- a boolean
  pub false-value : tag_at t i ≡ tag_false → (value_is boolean (value_at t i) ≡ true) × (octets "FALSE" ≡ value_text boolean (value_at t i))
  unfolding value_is is_some value_text given boolean_text
  false-value e = (rw (false-some t i e), rw (false-some t i e))

  pub true-value : tag_at t i ≡ tag_true → (value_is boolean (value_at t i) ≡ true) × (octets "TRUE" ≡ value_text boolean (value_at t i))
  unfolding value_is is_some value_text given boolean_text
  true-value e = (rw (true-some t i e), rw (true-some t i e))

  pub no-boolean-value : ((tag_at t i ≡ tag_false) → ⊥) → ((tag_at t i ≡ tag_true) → ⊥) → value_is boolean (value_at t i) ≡ false
  unfolding value_is is_some
  no-boolean-value n m = rw (no-boolean t i n m)
