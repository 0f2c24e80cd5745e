-- Texts of a fixed form have no octet that is escaped, and are written as they are read.
use Prim.Native.Char.{code}
use Prim.Native.Nat.{ℕ}
use mathlib.Core.Bool.{Bool, true, false, false≢true}
use mathlib.Core.List.{List, [], ◌∷◌, ◌++◌}
use mathlib.Core.Option.{none, some}
use mathlib.Core.Path.{◌≡◌, refl, sym, ap}
use borrow.Author.Tests.{eqb-true}
use Rattle.octets.specs.Basics.{all}
use Rattle.octets.specs.Groups.{as_is_octet}
use Rattle.octets.specs.Classes.{between, is_digit}
use Rattle.octets.specs.Decimal.{is_sign}
use Rattle.octets.specs.Optional.{map?}
use Rattle.octets.specs.Pen.{Pen, Wrote}
use Rattle.octets.proofs.Cases.{both, and-true}
use Rattle.octets.proofs.Pen.{as-text}
use Rattle.calendar.specs.Forms.{Slot, digit, sign, letter, added, takes, fits, date_form, clock_form, utc, time_form, date_time_form, offset_form}
use Rattle.calendar.specs.Texts.{form_of}
use Rattle.calendar.specs.declared.texts.Form.TheVariants.{Date, Time, DateTime, Offset}
use Rattle.calendar.specs.declared.texts.Form.{Form}
use Rattle.calendar.proofs.Fixed.{form_for}
use Rattle.calendar.proofs.Readback.{form-fitted}
use Rattle.json_text.specs.Tree.{Json, str}
use Rattle.json_text.specs.Print.{print_string, print}
use Rattle.jcal_values.proofs.Quoting.{quoted-bare, bare-class}

-- a place that takes such octets alone
unfoldable bare_slot : Slot → Bool
bare_slot digit = true
bare_slot sign = true
bare_slot (letter l) = as_is_octet l
bare_slot (added a) = as_is_octet a

takes-bare : (p : Slot) (x : ℕ) → bare_slot p ≡ true → takes p x ≡ true → as_is_octet x ≡ true
unfolding bare_slot takes
takes-bare digit x r e = bare-class is_digit (unfold is_digit between in refl) (unfold is_digit between in refl) (unfold is_digit between in refl) (unfold is_digit between in refl) x e
takes-bare sign x r e = bare-class is_sign (unfold is_sign in refl) (unfold is_sign in refl) (unfold is_sign in refl) (unfold is_sign in refl) x e
takes-bare (letter l) x r e = rw (eqb-true x l e) r
takes-bare (added a) x r e = rw (eqb-true x a e) r

fits-bare : (f : List Slot) (t : List ℕ) → all bare_slot f ≡ true → fits f t ≡ true → all as_is_octet t ≡ true
unfolding fits all
fits-bare [] [] r h = refl
fits-bare [] (x ∷ t) r h = absurd (false≢true h)
fits-bare (p ∷ f) [] r h = absurd (false≢true h)
fits-bare (p ∷ f) (x ∷ t) r h =
    let a = both (bare_slot p) (all bare_slot f) r in
    let b = both (takes p x) (fits f t) h in
    and-true (takes-bare p x a.0 b.0) (fits-bare f t a.1 b.1)

form-bare : (f : Form) (b : Bool) → all bare_slot (form_for f b) ≡ true
unfolding all bare_slot as_is_octet date_form clock_form utc time_form date_time_form offset_form
form-bare Date b = refl
form-bare Time true = refl
form-bare Time false = refl
form-bare DateTime true = refl
form-bare DateTime false = refl
form-bare Offset true = refl
form-bare Offset false = refl

-- what a text of a form says is written, or it says nothing
module _ (f : Form) (s : List ℕ) where
  pub form-none : none ≡ form_of f s → map? str (form_of f s) ≡ none
  unfolding map?
  form-none e = ap (map? str) (sym e)

  pub form-written : {p q : Pen} → (t : List ℕ) → some t ≡ form_of f s → Wrote p (code "\"" ∷ (t ++ code "\"" ∷ [])) q → (j : Json) × (map? str (form_of f s) ≡ some j) × Wrote p (print j) q
  unfolding map? print print_string
  form-written t e u =
      let b = quoted-bare t (fits-bare _ t (form-bare f _) (form-fitted f s t (sym e)).has) in
      (str t, ap (map? str) (sym e), as-text u (ap (λ (l : List ℕ). code "\"" ∷ l) (sym b)))
